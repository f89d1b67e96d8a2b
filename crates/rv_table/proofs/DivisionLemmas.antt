-- Division is the manual's.
use Rattle.std.proofs.Common.{◌≡◌, ℕ, ◌+◌, ◌-◌, ◌*◌, ◌/◌, ◌%◌, ◌^◌, ◌<◌, ◌≤◌, ◌==◌, Bool, true, false, if◌then◌else◌}
use Rattle.std.proofs.Common.{refl, ◌∙◌, ap, arith, FitsSigned, ℤ, ◌+ℤ◌, ◌*ℤ◌}
use Rattle.std.specs.Int.{w32}
use Rattle.std.specs.Int.RustNames.{int_div, int_rem}
use Rattle.std.proofs.lemmas.Int.{quot-rem}
use Rattle.std.specs.Int.Signed.{mag, mag_rem}
use Rattle.rv_table.specs.Arithmetic.{signed, word}
use Rattle.rv_table.proofs.NumberLemmas.{back_again, signed_fits}
use Rattle.rv_table.specs.Laws.{DividesAsTheManualSays}

below_both : (m n k : ℕ) → m ≤ n → n < k → m < k
below_both m n k h l = omega arith

unsigned : (a b : ℕ) (zero : Bool) → (b == 0) ≡ zero → zero ≡ false
    → b * (if zero then 2 ^ 32 - 1 else a / b) + (if zero then a else a % b) ≡ a
unsigned a b false e f = omega arith
unsigned a b true e f = cc

-- the remainder is no further from 0 than the dividend
remainder_fits : (x y : ℤ) → FitsSigned w32 x → FitsSigned w32 (int_rem x y)
remainder_fits x y fits =
    let below : mag (int_rem x y) ≤ mag x = mag_rem x y in record { sfits = below_both _ _ _ below fits.sfits }

dividend_again : (x y : ℤ) → FitsSigned w32 x → FitsSigned w32 (int_div x y)
    → signed (word (int_div x y)) *ℤ y +ℤ signed (word (int_rem x y)) ≡ x
dividend_again x y fits quotient_fits =
    ap (λ (q : ℤ). q *ℤ y +ℤ signed (word (int_rem x y))) (back_again (int_div x y) quotient_fits)
    ∙ (ap (λ (r : ℤ). int_div x y *ℤ y +ℤ r) (back_again (int_rem x y) (remainder_fits x y fits)) ∙ quot-rem x y)

signed_again : (a b : ℕ) (x y : ℤ) (zero : Bool) → zero ≡ false → FitsSigned w32 x → FitsSigned w32 (int_div x y)
    → signed (if zero then 2 ^ 32 - 1 else word (int_div x y)) *ℤ y +ℤ signed
    (if zero then a else word (int_rem x y)) ≡ x
signed_again a b x y false e fits quotient_fits = dividend_again x y fits quotient_fits
signed_again a b x y true e fits quotient_fits = cc

pub divides : DividesAsTheManualSays
divides = record {
  quotient_by_zero = λ a. refl;
  remainder_by_zero = λ a. refl;
  signed_quotient_by_zero = λ a. refl;
  signed_remainder_by_zero = λ a. refl;
  overflowing_quotient = refl;
  overflowing_remainder = refl;
  dividend = λ a b e. unsigned a b (b == 0) refl e;
  signed_dividend = λ a b small e fits.
      signed_again a b (signed a) (signed b) (b == 0) e (signed_fits a small) fits;
}
