-- Sums of turns that stop at a limit.
use Rattle.std.specs.Prelude.{◌≡◌, refl, ℕ, suc, ◌+◌, ◌-◌, ◌^◌, ◌<◌, min, List, Bool, true, false}
use Rattle.std.specs.Prelude.{Option, Some, None, if◌then◌else◌}
use Rattle.std.proofs.Common.{ap, sym, ◌∙◌, arith}
use Rattle.vl_tree.specs.declared.part.LoopHead.{LoopHead}
use Rattle.vl_mean.specs.declared.const_number.Const.{Const}
use Rattle.vl_mean.specs.ConstantFaults.{capped}
use Rattle.vl_mean.specs.FlatLaw.{nodes}
use Rattle.vl_elab_spec.specs.Meanings.{Names}
use Rattle.vl_elab_const.specs.Numbers.{holds, genvar_number}
use Rattle.vl_elab_check_item.specs.TurnParts.{in_turn}
use Rattle.vl_elab_count.specs.Counts.{turn_nodes}

absorb_first : (top a b : ℕ) → min (min a top + b) top ≡ min (a + b) top
absorb_first top a b = omega arith

absorb_second : (top a b : ℕ) → min (a + min b top) top ≡ min (a + b) top
absorb_second top a b = omega arith

plus_assoc : (a b c : ℕ) → a + b + c ≡ a + (b + c)
plus_assoc a b c = omega arith

-- one number more, of which up to the limit is known
first_more : (old c n rest new : ℕ) → n ≡ capped c → new ≡ capped (old + n)
    → capped (new + rest) ≡ capped (old + (c + rest))
first_more old c n rest new h made =
    let top = 2 ^ 64 - 1 in
    (λ i. capped ((made ∙ (λ j. capped (old + h j)) ∙ absorb_second top old c) i + rest))
    ∙ absorb_first top (old + c) rest ∙ ap capped (plus_assoc old c rest)

module _ (ns : List Names) (head : LoopHead) where
  abbrev goes : Const → Bool
  goes c = holds (in_turn head.variable c ns) head.condition

  abbrev next : Const → Const
  next c = genvar_number (in_turn head.variable c ns) head.next

  same_left : (n : ℕ) → 0 < n → n ≡ suc (n - 1)
  same_left n h = omega (arith, h)

  module _ (n : ℕ) (c : Const) (old condition between whole : ℕ) (o : Option Const) (positive : 0 < n)
      (counted : condition ≡ capped (nodes head.condition)) (added : between ≡ capped (old + condition))
      (chosen : o ≡ (if goes c then Some (next c) else None))
      (before : capped (old + turn_nodes n ns head c) ≡ whole) where
    abbrev rest : Bool → ℕ
    rest b = if b then nodes head.next + turn_nodes (n - 1) ns head (next c) else 0

    here : capped (between + rest (goes c)) ≡ whole
    here =
        first_more old (nodes head.condition) condition (rest (goes c)) between counted added
        ∙ ap (λ k. capped (old + turn_nodes k ns head c)) (sym (same_left n positive)) ∙ before

    stops : (b : Bool) → o ≡ (if b then Some (next c) else None) → o ≡ None → b ≡ false
    stops true e f = cc
    stops false e f = refl

    goes_on : (b : Bool) (v : Const) → o ≡ (if b then Some (next c) else None) → o ≡ Some v → b ≡ true
    goes_on true v e f = refl
    goes_on false v e f = cc

    same_next : (b : Bool) (v : Const) → o ≡ (if b then Some (next c) else None) → o ≡ Some v → v ≡ next c
    same_next true v e f = cc
    same_next false v e f = cc

    -- behind the last turn
    pub turns_stop : o ≡ None → capped between ≡ whole
    turns_stop gone =
        ap capped (no_more between) ∙ ap (λ b. capped (between + rest b)) (sym (stops (goes c) chosen gone)) ∙ here
      where
        no_more : (a : ℕ) → a ≡ a + 0
        no_more a = omega arith

    -- one turn more
    pub turns_on : (v : Const) (step new : ℕ) → o ≡ Some v → step ≡ capped (nodes head.next)
        → new ≡ capped (between + step) → capped (new + turn_nodes (n - 1) ns head v) ≡ whole
    turns_on v step new some h made =
        ap (λ w. capped (new + turn_nodes (n - 1) ns head w)) (same_next (goes c) v chosen some)
        ∙ first_more between (nodes head.next) step (turn_nodes (n - 1) ns head (next c)) new h made
        ∙ ap (λ b. capped (between + rest b)) (sym (goes_on (goes c) v chosen some)) ∙ here

-- the last sum
pub last_turn : (old c n new : ℕ) → n ≡ capped c → new ≡ capped (old + n) → new ≡ capped (old + c)
last_turn old c n new h made = made ∙ (λ i. capped (old + h i)) ∙ absorb_second (2 ^ 64 - 1) old c

-- it is no more than the limit
pub once : (old n new : ℕ) → new ≡ capped (old + n) → capped new ≡ new
once old n new h = ap capped h ∙ twice (2 ^ 64 - 1) (old + n) ∙ sym h
  where
    twice : (top a : ℕ) → min (min a top) top ≡ min a top
    twice top a = omega arith

-- before the first turn
pub none_yet : (a : ℕ) → capped (0 + a) ≡ capped a
none_yet a = ap capped (zero_first a)
  where
    zero_first : (a : ℕ) → 0 + a ≡ a
    zero_first a = omega arith
