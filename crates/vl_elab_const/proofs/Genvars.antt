-- The value of a loop's variable.
use Rattle.std.specs.Prelude.{◌≡◌, refl, ℕ, ◌-◌, ◌<◌, ◌≤◌, ◌%◌, ◌^◌, max, nat_le, Bool, true, false, if◌then◌else◌}
use Rattle.std.specs.Prelude.{ℤ, pos, negsuc}
use Rattle.std.proofs.Common.{arith, mod-lt}
use Rattle.std.proofs.lemmas.Bool.Decides.{nat_tests}
use Rattle.fv_bits.specs.Bits.{as_int, to_int, is_negative}
use Rattle.vl_size.specs.Size.{Operand, is_bound}
use Rattle.vl_mean.specs.Walk.{genvar_value}

below_half : (n : ℕ) → (2 ^ 31 ≤ n) → n < 2 ^ 32 → is_bound (negsuc (2 ^ 32 - 1 - n)) ≡ true
below_half n h k = grind (arith, nat_tests)

above_half : (n : ℕ) → nat_le (2 ^ 31) n ≡ false → is_bound (pos n) ≡ true
above_half n h = grind (arith, nat_tests)

half : (n : ℕ) → nat_le (2 ^ 31) n ≡ true → 2 ^ 31 ≤ n
half n h = grind (arith, nat_tests)

bounded : (n : ℕ) → n < 2 ^ 32 → is_bound (to_int 32 n) ≡ true
bounded n k = by (is_negative 32 n) refl
  where
    by : (b : Bool) → nat_le (2 ^ 31) n ≡ b → is_bound (if b then negsuc (2 ^ 32 - 1 - n) else pos n) ≡ true
    by true h = below_half n (half n h) k
    by false h = above_half n h

pub genvar_bounded : (x : Operand)
    → is_bound (as_int (genvar_value x).width (genvar_value x).signed (genvar_value x).value) ≡ true
genvar_bounded x = bounded (x.at (max 32 x.size) x.sign % 2 ^ 32) (mod-lt (x.at (max 32 x.size) x.sign) (omega arith))
