-- A case, by its arms and what is done where none matches.
use Rattle.std.specs.Prelude.{◌≡◌, refl, ℕ, max, ◌==◌, Bool, true, false, ◌&&◌, ◌||◌, not, List, [], ◌∷◌, ◌++◌}
use Rattle.std.specs.Prelude.{Option, Some}
use Rattle.std.specs.Prelude.{if◌then◌else◌, All, IsSome}
use Rattle.std.proofs.Common.{ap, sym, ◌∙◌, subst, true≢false}
use Rattle.std.proofs.lemmas.List.Elements.{All-weaker}
use Rattle.fv_text.specs.declared.pos.Pos.{Pos}
use Rattle.fv_bits.specs.Bits.{bit}
use Rattle.vl_tree.specs.declared.stmt.Arm.{Arm}
use Rattle.vl_tree.specs.declared.stmt.Arm.TheVariants as arm
use Rattle.vl_tree.specs.declared.stmt.CaseKind.{CaseKind}
use Rattle.vl_tree.specs.Attributes.{Attributes}
use Rattle.vl_tree.specs.Expr.{Expr}
use Rattle.vl_tree.specs.Stmt.{Stmt, Arms, case, no_arms, labels, default}
use Rattle.vl_tree.specs.StmtView.{arms, with_arm}
use Rattle.vl_size.specs.declared.context.Context.{Context}
use Rattle.vl_size.specs.declared.decl.Decl.{Decl}
use Rattle.vl_size.specs.Size.{Values, size}
use Rattle.vl_mean.specs.Execution.{State, exec, pick, otherwise, matches, arms_size, arms_sign}
use Rattle.vl_mean.specs.FlatLaw.{AreArms, IsReadIn, flat_scopes}
use Rattle.vl_mean.specs.Scopes.{operand_in}
use Rattle.wn_net.specs.Value.{Given}
use Rattle.wn_net.specs.Net.{Netlist, IsNode, IsNodeOf, value_at}
use Rattle.wn_net.specs.Given.{IsGiven}
use Rattle.wn_net.specs.Changes.{AddsNodes}
use Rattle.wn_net.proofs.Laws.{given_on, value_on}
use Rattle.vl_lower_assign.specs.Slots.{IsPath, is_taken}
use Rattle.vl_lower_assign.proofs.Tests.{path_on}
use Rattle.vl_lower_assign.specs.Frames.{Cells, IsFrame, Stand, StandsFor}
use Rattle.vl_lower_assign.specs.Stored.{stored, arm_stored, otherwise_stored}
use Rattle.vl_lower_assign.proofs.Behind.{steps_as, steps_behind, steps_none}
use Rattle.vl_lower_stmt.specs.StepsArms.{AreLedTo, AreSized, ArmsDone, case_test, matched, picked, picked_stored}
use Rattle.vl_lower_stmt.specs.Executes.{Evaluates, Executes, ExecutesOther, Matches}
use Rattle.vl_lower_stmt.proofs.Cases.{arms_labels, arms_whole}
use Rattle.vl_lower_stmt.proofs.Lists.{none_picked}

stays : {A : Type 0} (p m : Bool) (x t : A) → (p && not m) ≡ true → (m ≡ false → x ≡ t) → (if p then x else t) ≡ t
stays true true x t e h = absurd (true≢false (sym e))
stays true false x t e h = h refl
stays false m x t e h = refl

-- a default matches nothing
pub default_unmatched : (ds : List Decl) (test : List Expr → Bool) (xs : List Arm) (x : Arm)
    → matched (flat_scopes ds) test (x ∷ []) ≡ false
    → matched (flat_scopes ds) test (xs ++ x ∷ []) ≡ matched (flat_scopes ds) test xs
default_unmatched ds test [] x e = e
default_unmatched ds test (arm.Labels p es s ∷ xs) x e = ap (λ b. test es || b) (default_unmatched ds test xs x e)
default_unmatched ds test (arm.Default p colon s ∷ xs) x e = default_unmatched ds test xs x e

-- ---- one arm more

-- Where the path goes on no arm before it matched, so that its labels are read over what stood before the case.
pub arm_done : (ds : List Decl) (old : Netlist) (f : Cells) (path : Option ℕ) (kind : CaseKind) (width : ℕ)
    (signed : Bool) (word : ℕ) (mid at half by new : Netlist) (h k : Cells) (rest : Option ℕ) (hit taken other : ℕ)
    (xs : List Arm) (x : Arm) (es : List Expr) (s : Stmt) → IsNode old word
    → ArmsDone ds old f path (case_test ds old kind width signed word) mid h rest xs
    → ((t : State) (b : List Expr → Bool)
    → picked (flat_scopes ds) b (x ∷ []) t ≡ (if b es then exec (flat_scopes ds) s t else t))
    → ((t : State) (w : Values) (b : List Expr → Bool)
    → picked_stored (flat_scopes ds) b (x ∷ []) t w ≡ (if b es then stored (flat_scopes ds) s t w else w))
    → ((b : List Expr → Bool) → matched (flat_scopes ds) b (x ∷ []) ≡ (b es || false))
    → Matches ds mid at h.now kind width signed word es hit → AddsNodes at half → AddsNodes half by
    → IsNodeOf half 1 taken → IsNodeOf by 1 other
    → ((g : Given) → IsGiven at g
    → is_taken half g (Some taken) ≡ (is_taken at g rest && (value_at at g hit == 1)))
    → ((g : Given) → IsGiven half g
    → is_taken by g (Some other) ≡ (is_taken half g rest && not (value_at half g hit == 1)))
    → Executes ds by new h k (Some taken) s
    → ArmsDone ds old f path (case_test ds old kind width signed word) new k (Some other) (xs ++ x ∷ [])
arm_done ds old f path kind width signed word mid at half by new h k rest hit taken other xs x es s there done acts
    acts_stored tells found two three taken_there other_there narrows turns step =
    arms_labels ds old f path (case_test ds old kind width signed word) mid at half by new h k rest hit taken other
    xs x es s done acts acts_stored tells found.adds two three found.node taken_there other_there hits narrows turns
    step
  where
    hits : (g : Given) (t : State) (w : Values) → IsGiven old g → StandsFor old g ds f t w
        → is_taken mid g rest ≡ true
        → value_at at g hit ≡ bit (case_test ds old kind width signed word g t es)
    hits g t w given has on =
        let test = case_test ds old kind width signed word g t in
        let comes = done.steps.comes g t w given has in
        let still : (if is_taken old g path then picked (flat_scopes ds) test xs t else t) ≡ t =
        stays (is_taken old g path) (matched (flat_scopes ds) test xs) (picked (flat_scopes ds) test xs t) t
        (sym (done.left g t w given has) ∙ on) (λ e. none_picked (flat_scopes ds) test xs t e) in
        let P : State → Type 0 = λ u. Stand mid g ds h.now u.now in
        found.value g t.now (given_on old mid g done.steps.adds given) (subst P still comes.now)
        ∙ ap (λ n. bit (matches (flat_scopes ds) kind t.now width signed n es))
        (value_on old mid g word done.steps.adds there)

-- ---- the whole

pub case_whole : (ds : List Decl) (a old mid new : Netlist) (f h k : Cells) (path rest : Option ℕ) (kind : CaseKind)
    (width : ℕ) (signed : Bool) (word : ℕ) (attrs : Attributes) (p : Pos) (e : Expr) (xs : List Arm)
    → IsFrame a ds f → IsPath a path
    → Evaluates ds a old f.now width (λ v. (operand_in (flat_scopes ds) v e).at width signed) word
    → ((v : Values) → width ≡ max (operand_in (flat_scopes ds) v e).size (arms_size (flat_scopes ds) (arms xs)))
    → ((v : Values) → signed ≡ ((operand_in (flat_scopes ds) v e).sign && arms_sign (flat_scopes ds) (arms xs)))
    → ArmsDone ds old f path (case_test ds old kind width signed word) mid h rest xs
    → ExecutesOther ds mid new h k rest (arms xs)
    → Executes ds a new f k path (case attrs p kind e (arms xs))
case_whole ds a old mid new f h k path rest kind width signed word attrs p e xs own way valued wide sign done last =
    steps_as ds a new f k _ _ _ _
    (steps_behind ds a old new f k _ _ valued.adds own
    (arms_whole ds old f path (case_test ds old kind width signed word) mid new h k rest xs
    (otherwise (flat_scopes ds) (arms xs)) (otherwise_stored (flat_scopes ds) (arms xs)) done last))
    (λ g t w given has.
    let x = operand_in (flat_scopes ds) t.now e in
    let is = valued.value g t.now given has.now in
    let on = path_on a old g path valued.adds way in
    (λ i. if on i then pick (flat_scopes ds) (arms xs)
    (λ es. matches (flat_scopes ds) kind t.now width signed (is i) es)
    (λ u. otherwise (flat_scopes ds) (arms xs) u) t else t)
    ∙ (λ i. if is_taken a g path then pick (flat_scopes ds) (arms xs)
    (λ es. matches (flat_scopes ds) kind t.now (wide t.now i) (sign t.now i) (x.at (wide t.now i) (sign t.now i)) es)
    (λ u. otherwise (flat_scopes ds) (arms xs) u) t else t))
    (λ g t w given has.
    let x = operand_in (flat_scopes ds) t.now e in
    let is = valued.value g t.now given has.now in
    let on = path_on a old g path valued.adds way in
    (λ i. if on i then arm_stored (flat_scopes ds) (arms xs)
    (λ es. matches (flat_scopes ds) kind t.now width signed (is i) es)
    (λ u m. otherwise_stored (flat_scopes ds) (arms xs) u m) t w else w)
    ∙ (λ i. if is_taken a g path then arm_stored (flat_scopes ds) (arms xs)
    (λ es. matches (flat_scopes ds) kind t.now (wide t.now i) (sign t.now i) (x.at (wide t.now i) (sign t.now i)) es)
    (λ u m. otherwise_stored (flat_scopes ds) (arms xs) u m) t w else w))

-- ---- the default

module _ (ds : List Decl) where
  same : {A : Type 0} (b : Bool) (x y : A) → y ≡ x → x ≡ (if b then y else x)
  same true x y e = sym e
  same false x y e = refl

  pub other_none : (net : Netlist) (f : Cells) (path : Option ℕ) (xs : Arms) → IsFrame net ds f
      → ((u : State) → otherwise (flat_scopes ds) xs u ≡ u)
      → ((u : State) (w : Values) → otherwise_stored (flat_scopes ds) xs u w ≡ w) → ExecutesOther ds net net f f path
      xs
  other_none net f path xs own idle keeps =
      steps_as ds net net f f _ _ _ _ (steps_none ds net f own)
      (λ g t w given has. same (is_taken net g path) t (otherwise (flat_scopes ds) xs t) (idle t))
      (λ g t w given has. same (is_taken net g path) w (otherwise_stored (flat_scopes ds) xs t w) (keeps t w))

  pub other_one : (old new : Netlist) (f h : Cells) (path : Option ℕ) (xs : Arms) (s : Stmt)
      → Executes ds old new f h path s → ((u : State) → otherwise (flat_scopes ds) xs u ≡ exec (flat_scopes ds) s u)
      → ((u : State) (w : Values) → otherwise_stored (flat_scopes ds) xs u w ≡ stored (flat_scopes ds) s u w)
      → ExecutesOther ds old new f h path xs
  other_one old new f h path xs s step acts keeps =
      steps_as ds old new f h _ _ _ _ step
      (λ g t w given has. ap (λ u. if is_taken old g path then u else t) (sym (acts t)))
      (λ g t w given has. ap (λ u. if is_taken old g path then u else w) (sym (keeps t w)))

  -- ---- what may stand in arms

  labels_sized : (c : Context) (es : List Expr) → All (IsReadIn ds c) es → AreSized ds es
  labels_sized c es h = All-weaker (IsReadIn ds c) (λ e. IsSome (size ds e)) (λ e r. r.sized) es h

  pub led_to : (c : Context) (xs : Arms) → AreArms ds c xs → AreLedTo ds xs
  led_to c no_arms h = tt
  led_to c (labels p es s rest) h = (labels_sized c es h.0, (h.1.0, led_to c rest h.1.1))
  led_to c (default p colon s rest) h = (h.0, led_to c rest h.1)

  -- of the first arm, and of the others
  pub first_led_to : (x : Arm) (xs : List Arm) → AreLedTo ds (arms (x ∷ xs)) → AreLedTo ds (with_arm x no_arms)
  first_led_to (arm.Labels p es s) xs h = (h.0, (h.1.0, tt))
  first_led_to (arm.Default p colon s) xs h = (h.0, tt)

  pub others_led_to : (x : Arm) (xs : List Arm) → AreLedTo ds (arms (x ∷ xs)) → AreLedTo ds (arms xs)
  others_led_to (arm.Labels p es s) xs h = h.1.1
  others_led_to (arm.Default p colon s) xs h = h.1
