-- Arms of a case, one behind the other.
use Rattle.std.specs.Prelude.{◌≡◌, refl, ℕ, ◌==◌, Bool, true, false, ◌&&◌, ◌||◌, not, List, [], ◌∷◌, ◌++◌, Option}
use Rattle.std.specs.Prelude.{Some}
use Rattle.std.specs.Prelude.{if◌then◌else◌}
use Rattle.std.proofs.Common.{ap, sym, ◌∙◌}
use Rattle.fv_bits.specs.Bits.{bit}
use Rattle.vl_tree.specs.declared.stmt.Arm.{Arm}
use Rattle.vl_tree.specs.Expr.{Expr}
use Rattle.vl_tree.specs.Stmt.{Stmt}
use Rattle.vl_tree.specs.StmtView.{arms}
use Rattle.vl_size.specs.declared.decl.Decl.{Decl}
use Rattle.vl_size.specs.Size.{Values}
use Rattle.vl_mean.specs.Execution.{State, exec, pick}
use Rattle.vl_mean.specs.FlatLaw.{flat_scopes}
use Rattle.wn_net.specs.Value.{Given}
use Rattle.wn_net.specs.Net.{Netlist, IsNodeOf, value_at}
use Rattle.wn_net.specs.Given.{IsGiven}
use Rattle.wn_net.specs.Changes.{AddsNodes}
use Rattle.wn_net.proofs.Laws.{adds_on, given_on, node_on, value_on}
use Rattle.vl_lower_assign.specs.Slots.{IsPath, is_taken}
use Rattle.vl_lower_assign.specs.Frames.{Cells, IsFrame, StandsFor, Steps}
use Rattle.vl_lower_assign.specs.Stored.{stored, arm_stored}
use Rattle.vl_lower_assign.proofs.Tests.{path_on}
use Rattle.vl_lower_assign.proofs.Behind.{steps_none, steps_then, steps_as, steps_behind}
use Rattle.vl_lower_stmt.specs.StepsArms.{ArmsDone, matched, picked, picked_stored}
use Rattle.vl_lower_stmt.specs.Executes.{Executes}
use Rattle.vl_lower_stmt.proofs.Choices.{bit_one}
use Rattle.vl_lower_stmt.proofs.Lists.{matched_labels, none_picked, none_stored, pick_is, picked_behind}
use Rattle.vl_lower_stmt.proofs.Lists.{picked_stored_behind, stored_is}

module _ (ds : List Decl) (old : Netlist) (f : Cells) (path : Option ℕ) (test : Given → State → List Expr → Bool) where
  pub arms_none : IsFrame old ds f → IsPath old path → ArmsDone ds old f path test old f path []
  arms_none own way = record {
    steps =
        steps_as ds old old f f _ _ _ _ (steps_none ds old f own) (λ g t w given has. same (is_taken old g path) t)
        (λ g t w given has. same (is_taken old g path) w);
    way = way;
    left = λ g t w given has. whole (is_taken old g path);
  }
    where
      same : {A : Type 0} (b : Bool) (t : A) → t ≡ (if b then t else t)
      same true t = refl
      same false t = refl

      whole : (b : Bool) → b ≡ (b && true)
      whole true = refl
      whole false = refl

  -- a default stands by
  pub arms_default : (new : Netlist) (h : Cells) (rest : Option ℕ) (xs : List Arm) (x : Arm)
      → ((t : State) (b : List Expr → Bool) → picked (flat_scopes ds) b (x ∷ []) t ≡ t)
      → ((t : State) (w : Values) (b : List Expr → Bool) → picked_stored (flat_scopes ds) b (x ∷ []) t w ≡ w)
      → ((b : List Expr → Bool) → matched (flat_scopes ds) b (xs ++ x ∷ []) ≡ matched (flat_scopes ds) b xs)
      → ArmsDone ds old f path test new h rest xs → ArmsDone ds old f path test new h rest (xs ++ x ∷ [])
  arms_default new h rest xs x idle idle_stored same done = record {
    steps =
        steps_as ds old new f h _ _ _ _ done.steps
        (λ g t w given has. ap (λ u. if is_taken old g path then u else t)
        (kept (test g t) t (matched (flat_scopes ds) (test g t) xs) refl
        ∙ sym (picked_behind (flat_scopes ds) (test g t) xs x t)))
        (λ g t w given has. ap (λ u. if is_taken old g path then u else w)
        (kept_stored (test g t) t w (matched (flat_scopes ds) (test g t) xs) refl
        ∙ sym (picked_stored_behind (flat_scopes ds) (test g t) xs x t w)));
    way = done.way;
    left = λ g t w given has.
        done.left g t w given has ∙ ap (λ b. is_taken old g path && not b) (sym (same (test g t)));
  }
    where
      kept : (b : List Expr → Bool) (t : State) (m : Bool) → matched (flat_scopes ds) b xs ≡ m
          → picked (flat_scopes ds) b xs t
          ≡ (if m then picked (flat_scopes ds) b xs t else picked (flat_scopes ds) b (x ∷ []) t)
      kept b t true e = refl
      kept b t false e = none_picked (flat_scopes ds) b xs t e ∙ sym (idle t b)

      kept_stored : (b : List Expr → Bool) (t : State) (w : Values) (m : Bool) → matched (flat_scopes ds) b xs ≡ m
          → picked_stored (flat_scopes ds) b xs t w
          ≡ (if m then picked_stored (flat_scopes ds) b xs t w else picked_stored (flat_scopes ds) b (x ∷ []) t w)
      kept_stored b t w true e = refl
      kept_stored b t w false e = none_stored (flat_scopes ds) b xs t w e ∙ sym (idle_stored t w b)

  -- one arm more is executed where none before it matched, and one of its labels does
  pub arms_labels : (mid at half by new : Netlist) (h k : Cells) (rest : Option ℕ) (hit taken other : ℕ) (xs : List
      Arm)
      (x : Arm) (es : List Expr) (s : Stmt) → ArmsDone ds old f path test mid h rest xs
      → ((t : State) (b : List Expr → Bool)
      → picked (flat_scopes ds) b (x ∷ []) t ≡ (if b es then exec (flat_scopes ds) s t else t))
      → ((t : State) (w : Values) (b : List Expr → Bool)
      → picked_stored (flat_scopes ds) b (x ∷ []) t w ≡ (if b es then stored (flat_scopes ds) s t w else w))
      → ((b : List Expr → Bool) → matched (flat_scopes ds) b (x ∷ []) ≡ (b es || false))
      → AddsNodes mid at → AddsNodes at half → AddsNodes half by
      → IsNodeOf at 1 hit → IsNodeOf half 1 taken → IsNodeOf by 1 other
      → ((g : Given) (t : State) (w : Values) → IsGiven old g → StandsFor old g ds f t w
      → is_taken mid g rest ≡ true → value_at at g hit ≡ bit (test g t es))
      → ((g : Given) → IsGiven at g
      → is_taken half g (Some taken) ≡ (is_taken at g rest && (value_at at g hit == 1)))
      → ((g : Given) → IsGiven half g
      → is_taken by g (Some other) ≡ (is_taken half g rest && not (value_at half g hit == 1)))
      → Executes ds by new h k (Some taken) s
      → ArmsDone ds old f path test new k (Some other) (xs ++ x ∷ [])
  arms_labels mid at half by new h k rest hit taken other xs x es s done acts acts_stored tells one two three hit_there
      taken_there other_there hits narrows turns step = record {
        steps =
            steps_as ds old new f k _ _ _ _
            (steps_then ds old mid new f h k _ _ _ _ done.steps
            (steps_behind ds mid by new h k _ _ before done.steps.frame step))
            (λ g t w given has.
            did g t (is_taken old g path) (matched (flat_scopes ds) (test g t) xs) refl (took g t w given has)
            ∙ ap (λ u. if is_taken old g path then u else t) (sym (picked_behind (flat_scopes ds) (test g t) xs x t)))
            (λ g t w given has.
            did_stored g t w (is_taken old g path) (matched (flat_scopes ds) (test g t) xs) refl (took g t w given has)
            ∙ ap (λ u. if is_taken old g path then u else w)
            (sym (picked_stored_behind (flat_scopes ds) (test g t) xs x t w)));
        way = (node_after.0, node_after.1);
        left = λ g t w given has.
            path_on by new g (Some other) step.adds other_there
            ∙ turns g (given_on at half g two (given_on mid at g one (given_on old mid g done.steps.adds given)))
            ∙ (λ i. rest_half g t w given has i && not (value_on at half g hit two hit_there.0 i == 1))
            ∙ remains g t w given has (is_taken old g path) (matched (flat_scopes ds) (test g t) xs)
            (done.left g t w given has)
            ∙ ap (λ b. is_taken old g path && not b)
            (sym (matched_labels (flat_scopes ds) (test g t) xs x es (tells (test g t))));
      }
    where
      before : AddsNodes mid by
      before = adds_on mid half by (adds_on mid at half one two) three

      node_after : IsNodeOf new 1 other
      node_after = node_on by new 1 other step.adds other_there

      rest_half : (g : Given) (t : State) (w : Values) → IsGiven old g → StandsFor old g ds f t w
          → is_taken half g rest ≡ (is_taken old g path && not (matched (flat_scopes ds) (test g t) xs))
      rest_half g t w given has =
          path_on mid half g rest (adds_on mid at half one two) done.way ∙ done.left g t w given has

      where_left : (g : Given) (t : State) (w : Values) → IsGiven old g → StandsFor old g ds f t w → (b : Bool)
          → is_taken mid g rest ≡ b → (b && (value_at at g hit == 1)) ≡ (b && test g t es)
      where_left g t w given has true e = ap (λ n. n == 1) (hits g t w given has e) ∙ bit_one (test g t es)
      where_left g t w given has false e = refl

      -- the arm is taken where none before it matched, and it does
      took : (g : Given) (t : State) (w : Values) → IsGiven old g → StandsFor old g ds f t w
          → is_taken by g (Some taken)
          ≡ ((is_taken old g path && not (matched (flat_scopes ds) (test g t) xs)) && test g t es)
      took g t w given has =
          path_on half by g (Some taken) three taken_there
          ∙ narrows g (given_on mid at g one (given_on old mid g done.steps.adds given))
          ∙ (λ i. path_on mid at g rest one done.way i && (value_at at g hit == 1))
          ∙ (λ i. done.left g t w given has i && (value_at at g hit == 1))
          ∙ where_left g t w given has (is_taken old g path && not (matched (flat_scopes ds) (test g t) xs))
          (done.left g t w given has)

      did : (g : Given) (t : State) (p m : Bool) → matched (flat_scopes ds) (test g t) xs ≡ m
          → is_taken by g (Some taken) ≡ ((p && not m) && test g t es)
          → (if is_taken by g (Some taken)
          then exec (flat_scopes ds) s (if p then picked (flat_scopes ds) (test g t) xs t else t)
          else (if p then picked (flat_scopes ds) (test g t) xs t else t))
          ≡ (if p then (if m then picked (flat_scopes ds) (test g t) xs t
          else picked (flat_scopes ds) (test g t) (x ∷ []) t) else t)
      did g t true true e q =
          ap (λ b. if b then exec (flat_scopes ds) s (picked (flat_scopes ds) (test g t) xs t)
          else picked (flat_scopes ds) (test g t) xs t) q
      did g t true false e q =
          (λ i. if q i then exec (flat_scopes ds) s (none_picked (flat_scopes ds) (test g t) xs t e i)
          else none_picked (flat_scopes ds) (test g t) xs t e i)
          ∙ sym (acts t (test g t))
      did g t false m e q = ap (λ b. if b then exec (flat_scopes ds) s t else t) q

      did_stored : (g : Given) (t : State) (w : Values) (p m : Bool) → matched (flat_scopes ds) (test g t) xs ≡ m
          → is_taken by g (Some taken) ≡ ((p && not m) && test g t es)
          → (if is_taken by g (Some taken)
          then stored (flat_scopes ds) s (if p then picked (flat_scopes ds) (test g t) xs t else t)
          (if p then picked_stored (flat_scopes ds) (test g t) xs t w else w)
          else (if p then picked_stored (flat_scopes ds) (test g t) xs t w else w))
          ≡ (if p then (if m then picked_stored (flat_scopes ds) (test g t) xs t w
          else picked_stored (flat_scopes ds) (test g t) (x ∷ []) t w) else w)
      did_stored g t w true true e q =
          ap (λ b. if b then stored (flat_scopes ds) s (picked (flat_scopes ds) (test g t) xs t)
          (picked_stored (flat_scopes ds) (test g t) xs t w)
          else picked_stored (flat_scopes ds) (test g t) xs t w) q
      did_stored g t w true false e q =
          (λ i. if q i then stored (flat_scopes ds) s (none_picked (flat_scopes ds) (test g t) xs t e i)
          (none_stored (flat_scopes ds) (test g t) xs t w e i)
          else none_stored (flat_scopes ds) (test g t) xs t w e i)
          ∙ sym (acts_stored t w (test g t))
      did_stored g t w false m e q = ap (λ b. if b then stored (flat_scopes ds) s t w else w) q

      remains : (g : Given) (t : State) (w : Values) → IsGiven old g → StandsFor old g ds f t w → (p m : Bool)
          → is_taken mid g rest ≡ (p && not m)
          → ((p && not m) && not (value_at at g hit == 1)) ≡ (p && not (m || test g t es))
      remains g t w given has true true e = refl
      remains g t w given has true false e =
          ap not (ap (λ n. n == 1) (hits g t w given has e) ∙ bit_one (test g t es))
      remains g t w given has false m e = refl

  -- ---- the whole

  -- where none matches, the default is executed
  pub arms_whole : (mid new : Netlist) (h k : Cells) (rest : Option ℕ) (xs : List Arm) (other : State → State)
      (stores : State → Values → Values)
      → ArmsDone ds old f path test mid h rest xs
      → Steps mid new ds h k (λ g t. if is_taken mid g rest then other t else t)
      (λ g t w. if is_taken mid g rest then stores t w else w)
      → Steps old new ds f k
      (λ g t. if is_taken old g path then pick (flat_scopes ds) (arms xs) (test g t) other t else t)
      (λ g t w. if is_taken old g path then arm_stored (flat_scopes ds) (arms xs) (test g t) stores t w else w)
  arms_whole mid new h k rest xs other stores done last =
      steps_as ds old new f k _ _ _ _ (steps_then ds old mid new f h k _ _ _ _ done.steps last)
      (λ g t w given has.
      did g t (is_taken old g path) (matched (flat_scopes ds) (test g t) xs) refl (done.left g t w given has)
      ∙ ap (λ u. if is_taken old g path then u else t) (sym (pick_is (flat_scopes ds) (test g t) xs other t)))
      (λ g t w given has.
      did_stored g t w (is_taken old g path) (matched (flat_scopes ds) (test g t) xs) refl
      (done.left g t w given has)
      ∙ ap (λ u. if is_taken old g path then u else w)
      (sym (stored_is (flat_scopes ds) (test g t) xs stores t w)))
    where
      did : (g : Given) (t : State) (p n : Bool) → matched (flat_scopes ds) (test g t) xs ≡ n
          → is_taken mid g rest ≡ (p && not n)
          → (if is_taken mid g rest then other (if p then picked (flat_scopes ds) (test g t) xs t else t)
          else (if p then picked (flat_scopes ds) (test g t) xs t else t))
          ≡ (if p then (if n then picked (flat_scopes ds) (test g t) xs t else other t) else t)
      did g t true true e q =
          ap (λ b. if b then other (picked (flat_scopes ds) (test g t) xs t)
          else picked (flat_scopes ds) (test g t) xs t) q
      did g t true false e q =
          (λ i. if q i then other (none_picked (flat_scopes ds) (test g t) xs t e i)
          else picked (flat_scopes ds) (test g t) xs t)
      did g t false n e q = ap (λ b. if b then other t else t) q

      did_stored : (g : Given) (t : State) (w : Values) (p n : Bool) → matched (flat_scopes ds) (test g t) xs ≡ n
          → is_taken mid g rest ≡ (p && not n)
          → (if is_taken mid g rest
          then stores (if p then picked (flat_scopes ds) (test g t) xs t else t)
          (if p then picked_stored (flat_scopes ds) (test g t) xs t w else w)
          else (if p then picked_stored (flat_scopes ds) (test g t) xs t w else w))
          ≡ (if p then (if n then picked_stored (flat_scopes ds) (test g t) xs t w else stores t w) else w)
      did_stored g t w true true e q =
          ap (λ b. if b then stores (picked (flat_scopes ds) (test g t) xs t)
          (picked_stored (flat_scopes ds) (test g t) xs t w)
          else picked_stored (flat_scopes ds) (test g t) xs t w) q
      did_stored g t w true false e q =
          (λ i. if q i then stores (none_picked (flat_scopes ds) (test g t) xs t e i)
          (none_stored (flat_scopes ds) (test g t) xs t w e i)
          else picked_stored (flat_scopes ds) (test g t) xs t w)
      did_stored g t w false n e q = ap (λ b. if b then stores t w else w) q
