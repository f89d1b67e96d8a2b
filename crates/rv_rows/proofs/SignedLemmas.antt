-- Signed words as magnitudes and signs.
use Rattle.std.specs.Prelude.{◌≡◌, refl, ℕ, zero, suc, ◌-◌, ◌/◌, ◌%◌, ◌^◌, ◌<◌, ◌==◌, Bool, true, false}
use Rattle.std.specs.Prelude.{if◌then◌else◌, nat_le, bit_xor, unsigned_abs, pos, negsuc, neg_ℤ}
use Rattle.std.specs.Int.RustNames.{int_div, int_rem}
use Rattle.std.proofs.Common.{ap, sym, ◌∙◌, arith}
use Rattle.std.proofs.lemmas.Bool.Decides.{nat_tests}
use Rattle.std.proofs.Math.Nat.{mod-eq_of_lt, div-le_self}
use Rattle.fv_bits.specs.Bits.{bit, part, ones, is_negative, of_int}
use Rattle.rv_table.specs.Arithmetic.{signed, difference, quotient, remainder, quotient_signed, remainder_signed}
use Rattle.rv_rows.specs.Signed.{rounded_quotient}

sign_bit : (a : ℕ) (s : Bool) → a < 2 ^ 32 → nat_le (2 ^ 31) a ≡ s → part 31 1 a ≡ bit s
sign_bit a true h e = grind (arith, nat_tests)
sign_bit a false h e = grind (arith, nat_tests)

pub sign_is : (a : ℕ) → a < 2 ^ 32 → part 31 1 a ≡ bit (is_negative 32 a)
sign_is a h = sign_bit a (nat_le (2 ^ 31) a) h refl

magnitude_by : (a : ℕ) (s : Bool) → a < 2 ^ 32 → nat_le (2 ^ 31) a ≡ s
    → (if bit s == 1 then difference 0 a else a) ≡ unsigned_abs (if s then negsuc (2 ^ 32 - 1 - a) else pos a)
magnitude_by a true h e = grind (arith, nat_tests)
magnitude_by a false h e = refl

pub magnitude_is : (a : ℕ) → a < 2 ^ 32
    → (if bit (is_negative 32 a) == 1 then difference 0 a else a) ≡ unsigned_abs (signed a)
magnitude_is a h = magnitude_by a (nat_le (2 ^ 31) a) h refl

-- the word of a number below 0
negated : (q : ℕ) → q < 2 ^ 32 → difference 0 q ≡ of_int 32 (neg_ℤ (pos q))
negated zero h = refl
negated (suc n) h = let same : n % 2 ^ 32 ≡ n = mod-eq_of_lt (omega (arith, h)) in omega (arith, same)

-- the word of one that isn't
kept : (q : ℕ) → q < 2 ^ 32 → q ≡ of_int 32 (pos q)
kept q h = sym (mod-eq_of_lt h)

no_more : (m n : ℕ) → m < 2 ^ 32 → m / n < 2 ^ 32
no_more m n h = omega (arith, div-le_self m n)

divisor : (b m n : ℕ) (z : Bool) → (b == 0) ≡ z → z ≡ false → (if b == 0 then m else n) ≡ n
divisor b m n false e f = ap (λ t. if t then m else n) e
divisor b m n true e f = cc

above_zero : (n : ℕ) → (suc n == 0) ≡ false
above_zero n = grind (arith, nat_tests)

quotient_by : (a b : ℕ) (s t z : Bool) → a < 2 ^ 32 → b < 2 ^ 32 → nat_le (2 ^ 31) a ≡ s → nat_le (2 ^ 31) b ≡ t
    → (b == 0) ≡ z
    → (if z then ones 32 else
    (if bit_xor (bit s) (bit t) == 1
    then difference 0 (quotient (unsigned_abs (if s then negsuc (2 ^ 32 - 1 - a) else pos a))
    (unsigned_abs (if t then negsuc (2 ^ 32 - 1 - b) else pos b)))
    else quotient (unsigned_abs (if s then negsuc (2 ^ 32 - 1 - a) else pos a))
    (unsigned_abs (if t then negsuc (2 ^ 32 - 1 - b) else pos b))))
    ≡ (if z then ones 32 else of_int 32 (int_div (if s then negsuc (2 ^ 32 - 1 - a) else pos a)
    (if t then negsuc (2 ^ 32 - 1 - b) else pos b)))
quotient_by a b s t true h k ea eb ez = refl
quotient_by a b false false false h k ea eb ez =
    divisor b (ones 32) (a / b) false ez refl ∙ kept (a / b) (no_more a b h)
quotient_by a b false true false h k ea eb ez =
    let n = suc (2 ^ 32 - 1 - b) in
    ap (difference 0) (divisor n (ones 32) (a / n) false (above_zero (2 ^ 32 - 1 - b)) refl)
    ∙ negated (a / n) (no_more a n h)
quotient_by a b true false false h k ea eb ez =
    ap (difference 0) (divisor b (ones 32) (suc (2 ^ 32 - 1 - a) / b) false ez refl)
    ∙ negated (suc (2 ^ 32 - 1 - a) / b) (no_more (suc (2 ^ 32 - 1 - a)) b (grind (arith, nat_tests)))
quotient_by a b true true false h k ea eb ez =
    let m = suc (2 ^ 32 - 1 - a) in
    let n = suc (2 ^ 32 - 1 - b) in
    divisor n (ones 32) (m / n) false (above_zero (2 ^ 32 - 1 - b)) refl
    ∙ kept (m / n) (no_more m n (grind (arith, nat_tests)))

pub quotient_signed_is : (a b : ℕ) → a < 2 ^ 32 → b < 2 ^ 32
    → (if b == 0 then ones 32 else rounded_quotient a b) ≡ quotient_signed a b
quotient_signed_is a b h k = quotient_by a b (nat_le (2 ^ 31) a) (nat_le (2 ^ 31) b) (b == 0) h k refl refl refl

remainder_by : (a b : ℕ) (s t z : Bool) → a < 2 ^ 32 → b < 2 ^ 32 → nat_le (2 ^ 31) a ≡ s → nat_le (2 ^ 31) b ≡ t
    → (b == 0) ≡ z
    → (if bit s == 1
    then difference 0 (remainder (unsigned_abs (if s then negsuc (2 ^ 32 - 1 - a) else pos a))
    (unsigned_abs (if t then negsuc (2 ^ 32 - 1 - b) else pos b)))
    else remainder (unsigned_abs (if s then negsuc (2 ^ 32 - 1 - a) else pos a))
    (unsigned_abs (if t then negsuc (2 ^ 32 - 1 - b) else pos b)))
    ≡ (if z then a else of_int 32 (int_rem (if s then negsuc (2 ^ 32 - 1 - a) else pos a)
    (if t then negsuc (2 ^ 32 - 1 - b) else pos b)))
remainder_by a b false false true h k ea eb ez = ap (λ t. if t then a else a % b) ez
remainder_by a b true false true h k ea eb ez =
    ap (λ t. difference 0 (if t then suc (2 ^ 32 - 1 - a) else suc (2 ^ 32 - 1 - a) % b)) ez ∙ back a h ea
  where
    back : (a : ℕ) → a < 2 ^ 32 → nat_le (2 ^ 31) a ≡ true → difference 0 (suc (2 ^ 32 - 1 - a)) ≡ a
    back a h e = grind (arith, nat_tests)
remainder_by a b s true true h k ea eb ez = absurd (grind (arith, nat_tests))
remainder_by a b false false false h k ea eb ez =
    divisor b a (a % b) false ez refl ∙ kept (a % b) (omega arith)
remainder_by a b false true false h k ea eb ez =
    let n = suc (2 ^ 32 - 1 - b) in
    divisor n a (a % n) false (above_zero (2 ^ 32 - 1 - b)) refl ∙ kept (a % n) (omega arith)
remainder_by a b true false false h k ea eb ez =
    let m = suc (2 ^ 32 - 1 - a) in
    ap (difference 0) (divisor b m (m % b) false ez refl) ∙ negated (m % b) (grind (arith, nat_tests))
remainder_by a b true true false h k ea eb ez =
    let m = suc (2 ^ 32 - 1 - a) in
    let n = suc (2 ^ 32 - 1 - b) in
    ap (difference 0) (divisor n m (m % n) false (above_zero (2 ^ 32 - 1 - b)) refl)
    ∙ negated (m % n) (grind (arith, nat_tests))

pub remainder_signed_is : (a b : ℕ) → a < 2 ^ 32 → b < 2 ^ 32
    → (if bit (is_negative 32 a) == 1
    then difference 0 (remainder (unsigned_abs (signed a)) (unsigned_abs (signed b)))
    else remainder (unsigned_abs (signed a)) (unsigned_abs (signed b)))
    ≡ remainder_signed a b
remainder_signed_is a b h k = remainder_by a b (nat_le (2 ^ 31) a) (nat_le (2 ^ 31) b) (b == 0) h k refl refl refl
