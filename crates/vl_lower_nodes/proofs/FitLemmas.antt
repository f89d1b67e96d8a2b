-- Numbers in other widths, and bits of tests.
use Rattle.std.specs.Prelude.{◌≡◌, refl, ℕ, ◌+◌, ◌-◌, ◌/◌, ◌%◌, ◌^◌, ◌<◌, ◌≤◌, Bool, true, false, not, ◌&&◌}
use Rattle.std.specs.Prelude.{if◌then◌else◌}
use Rattle.std.proofs.Common.{ap, sym, ◌∙◌, arith}
use Rattle.std.proofs.Math.Pow.{pow_mono}
use Rattle.std.proofs.Math.Nat.{mod-eq_of_lt}
use Rattle.fv_bits.specs.Bits.{part, bit, complement, extended, is_negative, sign_extended}

plain : (b : Bool) (m w n : ℕ) → w ≤ m → (if b then n + (2 ^ w - 2 ^ m) else n) ≡ n
plain true m w n h = let p : 2 ^ w ≤ 2 ^ m = pow_mono h in omega (arith, p)
plain false m w n h = refl

-- cut
pub extended_cut : (m w : ℕ) (s : Bool) (n : ℕ) → w ≤ m → part 0 w n ≡ extended m w s n
extended_cut m w s n h =
    let e : n / 2 ^ 0 ≡ n = omega arith in
    ap (λ k. k % 2 ^ w) e ∙ ap (λ k. k % 2 ^ w) (sym (plain (s && is_negative m n) m w n h))

-- as it is
pub extended_same : (m w : ℕ) (s : Bool) (n : ℕ) → m ≡ w → n < 2 ^ m → n ≡ extended m w s n
extended_same m w s n e h =
    let p : w ≤ m = omega arith in
    let q : 2 ^ m ≤ 2 ^ w = pow_mono (omega arith) in
    sym (ap (λ k. k % 2 ^ w) (plain (s && is_negative m n) m w n p) ∙ mod-eq_of_lt (omega (arith, q, h)))

-- with zeros
pub extended_zeros : (m w n : ℕ) → m ≤ w → n < 2 ^ m → n ≡ extended m w false n
extended_zeros m w n h fits = let q : 2 ^ m ≤ 2 ^ w = pow_mono h in sym (mod-eq_of_lt (omega (arith, q, fits)))

-- with the sign bit
pub extended_signs : (m w n : ℕ) → m ≤ w → n < 2 ^ m → sign_extended m w n ≡ extended m w true n
extended_signs m w n h fits = by (is_negative m n)
  where
    q : 2 ^ m ≤ 2 ^ w
    q = pow_mono h

    by : (b : Bool) → (if b then n + (2 ^ w - 2 ^ m) else n) ≡ (if b then n + (2 ^ w - 2 ^ m) else n) % 2 ^ w
    by true = sym (mod-eq_of_lt (omega (arith, q, fits)))
    by false = sym (mod-eq_of_lt (omega (arith, q, fits)))

-- a bit turned
pub bit_turned : (b : Bool) → complement 1 (bit b) ≡ bit (not b)
bit_turned true = refl
bit_turned false = refl

pub ruleset tests = (bit_turned)
