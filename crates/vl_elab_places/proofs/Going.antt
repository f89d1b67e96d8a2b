-- One turn more of a loop, over the numbers of constants.
use Rattle.std.specs.Prelude.{◌≡◌, refl, ℕ, suc, ◌-◌, ◌<◌, List, Bool, true, false, Option, Some, None}
use Rattle.std.specs.Prelude.{if◌then◌else◌}
use Rattle.std.proofs.Common.{ap, sym, ◌∙◌, arith}
use Rattle.vl_tree.specs.declared.part.LoopHead.{LoopHead}
use Rattle.vl_mean.specs.declared.const_number.Const.{Const}
use Rattle.vl_elab_spec.specs.Meanings.{Names}
use Rattle.vl_elab_const.specs.Numbers.{holds, genvar_number}
use Rattle.vl_elab_check_item.specs.TurnParts.{in_turn}
use Rattle.vl_elab_places.specs.declared.cursor.Cursor.{Cursor}
use Rattle.vl_elab_places.specs.Passing.{expr_passed, turns_passed}

module _ (ns : List Names) (head : LoopHead) where
  abbrev goes : Const → Bool
  goes value = holds (in_turn head.variable value ns) head.condition

  abbrev next : Const → Const
  next value = genvar_number (in_turn head.variable value ns) head.next

  -- behind its condition and its step
  abbrev behind : Cursor → Cursor
  behind c = expr_passed head.next (expr_passed head.condition c)

  abbrev by_test : ℕ → Const → Cursor → Bool → Cursor
  by_test n value c b =
      if b then turns_passed n ns head (next value) (behind c) else expr_passed head.condition c

  one_turn : (n : ℕ) (value : Const) (c : Cursor) → 0 < n
      → by_test (n - 1) value c (goes value) ≡ turns_passed n ns head value c
  one_turn n value c positive = ap (λ k. turns_passed k ns head value c) (sym same)
    where
      same : n ≡ suc (n - 1)
      same = omega (arith, positive)

  stops : (value : Const) (o : Option Const) (b : Bool) → o ≡ (if b then Some (next value) else None) → o ≡ None
      → b ≡ false
  stops value o true e f = cc
  stops value o false e f = refl

  leads : (value : Const) (o : Option Const) (v : Const) (b : Bool) → o ≡ (if b then Some (next value) else None)
      → o ≡ Some v → b ≡ true
  leads value o v true e f = refl
  leads value o v false e f = cc

  same_next : (value : Const) (o : Option Const) (v : Const) (b : Bool)
      → o ≡ (if b then Some (next value) else None) → o ≡ Some v → v ≡ next value
  same_next value o v true e f = cc
  same_next value o v false e f = cc

  pub turns_stop : (n : ℕ) (value : Const) (o : Option Const) (c : Cursor) → 0 < n
      → o ≡ (if goes value then Some (next value) else None) → o ≡ None
      → expr_passed head.condition c ≡ turns_passed n ns head value c
  turns_stop n value o c positive chosen gone =
      ap (by_test (n - 1) value c) (sym (stops value o (goes value) chosen gone)) ∙ one_turn n value c positive

  pub turns_on : (n : ℕ) (value v : Const) (o : Option Const) (c : Cursor) → 0 < n
      → o ≡ (if goes value then Some (next value) else None) → o ≡ Some v
      → turns_passed (n - 1) ns head v (behind c) ≡ turns_passed n ns head value c
  turns_on n value v o c positive chosen some =
      ap (λ w. turns_passed (n - 1) ns head w (behind c)) (same_next value o v (goes value) chosen some)
      ∙ ap (by_test (n - 1) value c) (sym (leads value o v (goes value) chosen some)) ∙ one_turn n value c positive

  pub turns_gone : (n : ℕ) (value : Const) (c : Cursor) → n ≡ 0
      → expr_passed head.condition c ≡ turns_passed n ns head value c
  turns_gone n value c none = ap (λ k. turns_passed k ns head value c) (sym none)
