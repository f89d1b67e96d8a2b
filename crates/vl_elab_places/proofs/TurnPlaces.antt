-- Turns of a loop: over the numbers of constants, behind the places that the definitions have over the scopes.
use Rattle.std.specs.Prelude.{◌≡◌, ℕ, zero, suc, List, [], ◌++◌, Bool, true, false, if◌then◌else◌}
use Rattle.std.proofs.Common.{ap, sym, ◌∙◌}
use Rattle.fv_text.specs.declared.pos.Pos.{Pos}
use Rattle.vl_tree.specs.declared.part.LoopHead.{LoopHead}
use Rattle.vl_size.specs.Size.{is_true}
use Rattle.vl_mean.specs.declared.const_number.Const.{Const}
use Rattle.vl_mean.specs.Constants.{constant_operand}
use Rattle.vl_mean.specs.Walk.{Place, goes_on, next_turn, first_turn, genvar_value}
use Rattle.vl_elab_spec.specs.Meanings.{Names}
use Rattle.vl_elab_spec.specs.NodePlaces.{expr_places, loop_places, one_turn_places, turn_places}
use Rattle.vl_elab_const.specs.Numbers.{HaveNumbers, holds, genvar_number}
use Rattle.vl_elab_check_item.specs.declared.reach.HeadValues.{HeadValues}
use Rattle.vl_elab_check_item.specs.TurnParts.{GoesBy, in_turn}
use Rattle.vl_elab_count.proofs.Numbers.{inside, first}
use Rattle.vl_elab_places.specs.declared.cursor.Cursor.{Cursor}
use Rattle.vl_elab_places.specs.Passing.{begun_passed, expr_passed, loop_passed, passed, turn_passed}
use Rattle.vl_elab_places.specs.Passing.{turns_passed}
use Rattle.vl_elab_places.proofs.Moved.{passed_append}
use Rattle.vl_elab_places.proofs.Nodes.{expr_passes}

-- behind a condition, and where it holds the step and what comes then
module _ (head : LoopHead) where
  after_step : (c : Cursor)
      → expr_passed head.next (expr_passed head.condition c)
      ≡ passed (expr_places head.next) (passed (expr_places head.condition) c)
  after_step c =
      expr_passes head.next (expr_passed head.condition c)
      ∙ ap (passed (expr_places head.next)) (expr_passes head.condition c)

  turn_and_more : (more : List Pos) (rest : Cursor → Cursor) → ((c : Cursor) → rest c ≡ passed more c)
      → (t : Bool) (c : Cursor)
      → (if t then rest (expr_passed head.next (expr_passed head.condition c)) else expr_passed head.condition c)
      ≡ passed (expr_places head.condition ++ (if t then expr_places head.next ++ more else [])) c
  turn_and_more more rest f true c =
      f (expr_passed head.next (expr_passed head.condition c))
      ∙ ap (passed more) (after_step c)
      ∙ sym (passed_append (expr_places head.next) more (passed (expr_places head.condition) c))
      ∙ sym (passed_append (expr_places head.condition) (expr_places head.next ++ more) c)
  turn_and_more more rest f false c =
      expr_passes head.condition c ∙ sym (passed_append (expr_places head.condition) [] c)

  turn_alone : (t : Bool) (c : Cursor)
      → (if t then expr_passed head.next (expr_passed head.condition c) else expr_passed head.condition c)
      ≡ passed (expr_places head.condition ++ (if t then expr_places head.next else [])) c
  turn_alone true c = after_step c ∙ sym (passed_append (expr_places head.condition) (expr_places head.next) c)
  turn_alone false c = expr_passes head.condition c ∙ sym (passed_append (expr_places head.condition) [] c)

module _ (ns : List Names) (at : Place) (h : HaveNumbers ns at.scopes) (head : LoopHead) where
  goes : (v : Const) → holds (in_turn head.variable v ns) head.condition ≡ goes_on head at.scopes v
  goes v = λ i. is_true (constant_operand (λ text. inside ns at h head v text i) head.condition)

  turns_pass : (n : ℕ) (v : Const) (c : Cursor)
      → turns_passed n ns head v c ≡ passed (turn_places n head at v) c
  turns_pass zero v c = expr_passes head.condition c
  turns_pass (suc n) v c =
      let next : genvar_number (in_turn head.variable v ns) head.next ≡ next_turn head at.scopes v =
      λ i. genvar_value (constant_operand (λ text. inside ns at h head v text i) head.next) in
      let behind : Cursor = expr_passed head.condition c in
      (λ i. if goes v i then turns_passed n ns head (next i) (expr_passed head.next behind) else behind)
      ∙ turn_and_more head (turn_places n head at (next_turn head at.scopes v))
      (turns_passed n ns head (next_turn head at.scopes v)) (λ k. turns_pass n (next_turn head at.scopes v) k)
      (goes_on head at.scopes v) c

  turn_passes : (v : Const) (c : Cursor) → turn_passed ns head v c ≡ passed (one_turn_places head at v) c
  turn_passes v c =
      let behind : Cursor = expr_passed head.condition c in
      (λ i. if goes v i then expr_passed head.next behind else behind)
      ∙ turn_alone head (goes_on head at.scopes v) c

  -- by what has a value in the head
  module _ (values : HeadValues) (by : GoesBy values head at) where
    abbrev chosen : Bool → Bool → List Pos
    chosen turns further =
        let first = first_turn head at.scopes in
        let some = if further then turn_places 4096 head at first else one_turn_places head at first in
        if turns then some else expr_places head.condition

    by_values : chosen values.turns values.further ≡ loop_places head at
    by_values = λ i. chosen (by.turns i) (by.further i)

    begun_passes : (further : Bool) (c : Cursor) → begun_passed further ns head c ≡ passed (chosen true further) c
    begun_passes true c =
        ap (λ v. turns_passed 4096 ns head v c) (first ns at h head) ∙ turns_pass 4096 (first_turn head at.scopes) c
    begun_passes false c =
        ap (λ v. turn_passed ns head v c) (first ns at h head) ∙ turn_passes (first_turn head at.scopes) c

    chosen_passes : (turns further : Bool) (c : Cursor)
        → (if turns then begun_passed further ns head c else expr_passed head.condition c)
        ≡ passed (chosen turns further) c
    chosen_passes true further c = begun_passes further c
    chosen_passes false further c = expr_passes head.condition c

    pub loop_passes : (c : Cursor) → loop_passed values ns head c ≡ passed (loop_places head at) c
    loop_passes c = chosen_passes values.turns values.further c ∙ ap (λ ps. passed ps c) by_values
