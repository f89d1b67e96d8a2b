-- An assignment, by the slots of its target and the node of its value.
use Rattle.std.specs.Prelude.{◌≡◌, refl, ℕ, ◌+◌, max, Bool, true, false, List, [], ◌∷◌, length, Option}
use Rattle.std.specs.Prelude.{if◌then◌else◌}
use Rattle.std.proofs.Common.{ap, sym, ◌∙◌, arith, subst, length-append}
use Rattle.std.proofs.lemmas.List.{append-nil}
use Rattle.fv_text.specs.declared.pos.Pos.{Pos}
use Rattle.fv_bits.specs.Bits.{extended}
use Rattle.vl_tree.specs.declared.stmt.AssignKind.{AssignKind}
use Rattle.vl_tree.specs.declared.stmt.AssignKind.TheVariants as a
use Rattle.vl_tree.specs.Attributes.{Attributes}
use Rattle.vl_tree.specs.Expr.{Expr}
use Rattle.vl_tree.specs.Lval.{Lval}
use Rattle.vl_tree.specs.Stmt.{assign}
use Rattle.vl_size.specs.declared.decl.Decl.{Decl}
use Rattle.vl_size.specs.Size.{Values}
use Rattle.vl_mean.specs.Execution.{State, assigned, exec}
use Rattle.vl_mean.specs.FlatLaw.{flat_scopes, target_size}
use Rattle.vl_mean.specs.Scopes.{operand_in}
use Rattle.vl_mean.specs.Targets.{Spot, spots, written, put_all}
use Rattle.wn_net.specs.Value.{Given}
use Rattle.wn_net.specs.Net.{Netlist, value_at}
use Rattle.wn_net.specs.Given.{IsGiven}
use Rattle.wn_net.specs.Changes.{AddsNodes}
use Rattle.wn_net.proofs.Laws.{adds_on, given_on}
use Rattle.vl_lower_assign.specs.declared.slot.Slot.{Slot}
use Rattle.vl_lower_assign.specs.Slots.{IsPath, is_taken}
use Rattle.vl_lower_assign.specs.Frames.{Cells, IsFrame, StandsFor, AreSlotsOf, Assigns, slots_width}
use Rattle.vl_lower_assign.specs.Frames.{with_writes}
use Rattle.vl_lower_assign.specs.Stored.{stored}
use Rattle.vl_lower_assign.proofs.Tests.{path_on}
use Rattle.vl_lower_assign.proofs.Behind.{stand_on, stands_on, steps_as, steps_before, steps_none}
use Rattle.vl_lower_assign.proofs.Several.{slots_on}
use Rattle.vl_lower_assign.proofs.Writing.{spots_count, written_low}
use Rattle.vl_lower_stmt.specs.Executes.{Evaluates, Executes}
use Rattle.vl_lower_stmt.specs.Located.{Locates}

slots_count : (net : Netlist) (g : Given) (ds : List Decl) (slots : List Slot) (bits : List (Option Spot))
    → AreSlotsOf net g ds slots bits → length bits ≡ slots_width slots
slots_count net g ds [] bits h = ap length h
slots_count net g ds (s ∷ ss) bits h =
    ap length h.4 ∙ length-append h.0 h.1
    ∙ (λ i. (ap length h.2.bits_are ∙ spots_count s.count s.width h.2.text h.2.place) i
    + slots_count net g ds ss h.1 h.3 i)

module _ (ds : List Decl) where
  executed : (attrs : Attributes) (p : Pos) (l : Lval) (k : AssignKind) (e : Expr) (t : State)
      → with_writes k t (assigned (flat_scopes ds) l (flat_scopes ds) e t.now)
      ≡ exec (flat_scopes ds) (assign attrs p l k e) t
  executed attrs p l a.Blocking e t = refl
  executed attrs p l a.Nonblocking e t = refl

  pub assignment : (old one two at new : Netlist) (f h : Cells) (path : Option ℕ) (kind : AssignKind)
      (slots : List Slot) (width : ℕ) (signed : Bool) (number value : ℕ) (attrs : Attributes) (p : Pos) (l : Lval)
      (e : Expr) → IsFrame old ds f → IsPath old path
      → Locates ds old one f.now [] slots (target_size ds l) (λ v. spots (flat_scopes ds) v l)
      → Evaluates ds one two f.now width (λ v. (operand_in (flat_scopes ds) v e).at width signed) number
      → AddsNodes two at
      → ((v : Values) → width ≡ max (slots_width slots) (operand_in (flat_scopes ds) v e).size)
      → ((v : Values) → signed ≡ (operand_in (flat_scopes ds) v e).sign)
      → ((g : Given) → IsGiven two g
      → value_at at g value ≡ extended width (slots_width slots) false (value_at two g number))
      → Assigns at new ds f h path kind slots (λ g. value_at at g value)
      → Executes ds old new f h path (assign attrs p l kind e)
  assignment old one two at new f h path kind slots width signed number value attrs p l e own way located valued fits
      wide sign cut assigns =
      let mid = adds_on one two at valued.adds fits in
      let all = adds_on old one at located.adds mid in
      record {
        adds = adds_on old at new all assigns.adds;
        frame = assigns.frame;
        back = assigns.back;
        comes = λ g t w given has.
            let given_one = given_on old one g located.adds given in
            let given_two = given_on one two g valued.adds given_one in
            let bits = spots (flat_scopes ds) t.now l in
            let x = operand_in (flat_scopes ds) t.now e in
            let there = located.at g t.now [] given has.now refl in
            let n = slots_width slots in
            let count = slots_count one g ds slots bits there in
            let stands = stand_on old one g ds f.now t.now located.adds own.now has.now in
            let same : written bits (value_at at g value) ≡ assigned (flat_scopes ds) l (flat_scopes ds) e t.now =
            ap (written bits) (cut g given_two ∙ ap (extended width n false) (valued.value g t.now given_one stands))
            ∙ written_low bits n (x.at width signed) count
            ∙ (λ i. written bits (x.at (wide t.now i) (sign t.now i)))
            ∙ (λ i. written bits (x.at (max (sym count i) x.size) x.sign)) in
            let way_is = path_on old at g path all way in
            let P : State → Type 0 = λ u. StandsFor new g ds h u
            (if is_taken at g path then put_all (written bits (value_at at g value)) w else w) in
            let Q : Values → Type 0 = λ v. StandsFor new g ds h
            (if is_taken old g path then exec (flat_scopes ds) (assign attrs p l kind e) t else t) v in
            subst Q
            (λ i. if way_is i then put_all (same i) w else w)
            (subst P
            ((λ i. if way_is i then with_writes kind t (same i) else t)
            ∙ (λ i. if is_taken old g path then executed attrs p l kind e t i else t))
            (assigns.comes g t w bits (given_on old at g all given) (stands_on old at g ds f t w all own has)
            (slots_on one at g ds slots bits mid located.slots there)));
      }

  -- ---- an empty target

  no_bits : (bits : List (Option Spot)) → length bits ≡ 0 → bits ≡ []
  no_bits [] e = refl
  no_bits (x ∷ xs) e = absurd (omega (arith, e))

  idle : (k : AssignKind) (t : State) → t ≡ with_writes k t []
  idle a.Blocking t = refl
  idle a.Nonblocking t = ap (λ ws. record t { pending = ws }) (sym (append-nil t.pending))

  same : {A : Type 0} (b : Bool) (x y : A) → x ≡ y → x ≡ (if b then y else x)
  same true x y e = e
  same false x y e = refl

  pub assignment_none : (old one new : Netlist) (f : Cells) (path : Option ℕ) (kind : AssignKind) (slots : List Slot)
      (attrs : Attributes) (p : Pos) (l : Lval) (e : Expr) → IsFrame old ds f
      → Locates ds old one f.now [] slots (target_size ds l) (λ v. spots (flat_scopes ds) v l) → AddsNodes one new
      → slots_width slots ≡ 0 → Executes ds old new f f path (assign attrs p l kind e)
  assignment_none old one new f path kind slots attrs p l e own located adds none =
      steps_as ds old new f f _ _ _ _
      (steps_before ds old old new f f _ _ (steps_none ds old f own) (adds_on old one new located.adds adds))
      (λ g t w given has.
      same (is_taken old g path) t (exec (flat_scopes ds) (assign attrs p l kind e) t)
      (idle kind t ∙ ap (with_writes kind t) (sym (nothing g t w given has)) ∙ executed attrs p l kind e t))
      (λ g t w given has.
      same (is_taken old g path) w (stored (flat_scopes ds) (assign attrs p l kind e) t w)
      (ap (λ ws. put_all ws w) (sym (nothing g t w given has))))
    where
      nothing : (g : Given) (t : State) (w : Values) → IsGiven old g → StandsFor old g ds f t w
          → assigned (flat_scopes ds) l (flat_scopes ds) e t.now ≡ []
      nothing g t w given has =
          let bits = spots (flat_scopes ds) t.now l in
          let x = operand_in (flat_scopes ds) t.now e in
          let there = located.at g t.now [] given has.now refl in
          let empty = no_bits bits (slots_count one g ds slots bits there ∙ none) in
          λ i. written (empty i) (x.at (max (length (empty i)) x.size) x.sign)
