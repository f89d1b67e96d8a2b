-- The bounds of a simple range.
use Rattle.std.specs.Prelude.{◌≡◌, refl, ℕ, ◌+◌, ◌-◌, ◌^◌, ◌≤◌, Bool, true, false, if◌then◌else◌, pos, negsuc}
use Rattle.std.proofs.Common.{ap, ◌∙◌, arith}
use Rattle.std.proofs.lemmas.Bool.Decides.{nat_tests}
use Rattle.std.proofs.lemmas.Int.{ints}
use Rattle.fv_bits.specs.Bits.{as_int, extended, is_negative, low}
use Rattle.vl_size.specs.Size.{is_bound}
use Rattle.vl_size.specs.Table.{span}

not_below_zero : (v : ℕ) → v ≤ 127 → is_negative 32 v ≡ false
not_below_zero v h = grind (arith, nat_tests)

short : (v : ℕ) → v ≤ 127 → low 32 v ≡ v
short v h = omega arith

extended_short : (s : Bool) (v : ℕ) → v ≤ 127 → extended 32 32 s v ≡ v
extended_short false v h = short v h
extended_short true v h =
    ap (λ b. low 32 (if b then v + (2 ^ 32 - 2 ^ 32) else v)) (not_below_zero v h) ∙ short v h

read_short : (s : Bool) (v : ℕ) → v ≤ 127 → as_int 32 s v ≡ pos v
read_short false v h = refl
read_short true v h = ap (λ b. if b then negsuc (2 ^ 32 - 1 - v) else pos v) (not_below_zero v h)

-- of 32 bits
value_in : (s : Bool) (v : ℕ) → v ≤ 127 → as_int 32 s (extended 32 32 s v) ≡ pos v
value_in s v h = ap (as_int 32 s) (extended_short s v h) ∙ read_short s v h

pub value_is : (w : ℕ) (s : Bool) (v : ℕ) → w ≡ 32 → v ≤ 127 → as_int w s (extended w w s v) ≡ pos v
value_is w s v e h = ap (λ w. as_int w s (extended w w s v)) e ∙ value_in s v h

pub bound_near : (v : ℕ) → v ≤ 127 → is_bound (pos v) ≡ true
bound_near v h = grind (arith, ints, nat_tests)

pub span_few : (v : ℕ) → v ≤ 127 → span (pos v) (pos 0) ≤ 128
span_few v h = omega arith
