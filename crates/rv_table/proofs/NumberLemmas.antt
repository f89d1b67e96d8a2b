-- Words in two's complement, as machine arithmetic computes them.
use Rattle.std.specs.Prelude.{◌≡◌, ℕ, zero, suc, ◌/◌, ◌%◌, ◌^◌, ◌<◌, ◌≤◌}
use Rattle.std.specs.Prelude.{ℤ, pos, negsuc, neg_ℤ}
use Rattle.std.specs.Int.{w32, w64, cast_signed, cast_unsigned, int_shr}
use Rattle.std.specs.Int.RustNames.{FitsSigned, int_div, int_rem}
use Rattle.std.specs.Int.Signed.{mag, mag_rem}
use Rattle.std.proofs.Common.{ap, sym, ◌∙◌, arith, subst}
use Rattle.std.proofs.lemmas.Int.{ints, to_z-of_z, of_z-to_z}
use Rattle.std.proofs.Math.Facts.{sfits_to_z}
use Rattle.std.proofs.Math.Nat.{mod-eq_of_lt, div-le_self}
use Rattle.fv_bits.specs.Bits.{to_int, of_int, arithmetic_right, part}

pub signs : (a : ℕ) → a < 2 ^ 32 → cast_signed w32 a ≡ to_int 32 a
signs a h = grind (arith, ints)

-- the bits of a number in two's complement, where it has room
pub words : (z : ℤ) → mag z ≤ 2 ^ 31 → cast_unsigned w32 z ≡ of_int 32 z
words (pos n) h = sym (mod-eq_of_lt (omega (arith, h)))
words (negsuc n) h =
    let same : n % 2 ^ 32 ≡ n = mod-eq_of_lt (omega (arith, h)) in omega (arith, same)

pub wide_words : (z : ℤ) → mag z < 2 ^ 63 → cast_unsigned w64 z ≡ of_int 64 z
wide_words (pos n) h = sym (mod-eq_of_lt (omega (arith, h)))
wide_words (negsuc n) h =
    let same : n % 2 ^ 64 ≡ n = mod-eq_of_lt (omega (arith, h)) in omega (arith, same)

signed_small : (a : ℕ) → a < 2 ^ 32 → mag (to_int 32 a) < 2 ^ 31
signed_small a h = grind arith

negated_small : (n m : ℕ) → n ≤ m → mag (neg_ℤ (pos n)) ≤ m
negated_small zero m h = omega arith
negated_small (suc n) m h = omega arith

quotient_small : (x y : ℤ) → mag x < 2 ^ 31 → mag (int_div x y) ≤ 2 ^ 31
quotient_small (pos a) (pos b) h = omega (arith, h, div-le_self a b)
quotient_small (pos a) (negsuc b) h = negated_small (a / suc b) (2 ^ 31) (omega (arith, h, div-le_self a (suc b)))
quotient_small (negsuc a) (pos b) h = negated_small (suc a / b) (2 ^ 31) (omega (arith, h, div-le_self (suc a) b))
quotient_small (negsuc a) (negsuc b) h = omega (arith, h, div-le_self (suc a) (suc b))

pub quotient_word : (a b : ℕ) → a < 2 ^ 32 → b < 2 ^ 32
    → cast_unsigned w32 (int_div (cast_signed w32 a) (cast_signed w32 b))
    ≡ of_int 32 (int_div (to_int 32 a) (to_int 32 b))
quotient_word a b h k =
    (λ i. cast_unsigned w32 (int_div (signs a h i) (signs b k i)))
    ∙ words (int_div (to_int 32 a) (to_int 32 b)) (quotient_small (to_int 32 a) (to_int 32 b) (signed_small a h))

pub remainder_word : (a b : ℕ) → a < 2 ^ 32 → b < 2 ^ 32
    → cast_unsigned w32 (int_rem (cast_signed w32 a) (cast_signed w32 b))
    ≡ of_int 32 (int_rem (to_int 32 a) (to_int 32 b))
remainder_word a b h k =
    let below : mag (int_rem (to_int 32 a) (to_int 32 b)) ≤ mag (to_int 32 a) = mag_rem (to_int 32 a) (to_int 32 b) in
    (λ i. cast_unsigned w32 (int_rem (signs a h i) (signs b k i)))
    ∙ words (int_rem (to_int 32 a) (to_int 32 b)) (omega (arith, below, signed_small a h))

pub shifted_word : (a k : ℕ) → a < 2 ^ 32 → k < 32
    → cast_unsigned w32 (int_shr (cast_signed w32 a) k) ≡ arithmetic_right 32 a k
shifted_word a k h few = grind (arith, ints)

pub upper_word : (z : ℤ) → mag z < 2 ^ 63 → cast_unsigned w64 z / 2 ^ 32 ≡ part 32 32 (of_int 64 z)
upper_word z h =
    let small : cast_unsigned w64 z / 2 ^ 32 < 2 ^ 32 = bits_below z h in
    sym (mod-eq_of_lt small) ∙ ap (λ m. m / 2 ^ 32 % 2 ^ 32) (wide_words z h)
  where
    bits_below : (z : ℤ) → mag z < 2 ^ 63 → cast_unsigned w64 z / 2 ^ 32 < 2 ^ 32
    bits_below (pos n) h = omega (arith, h)
    bits_below (negsuc n) h = omega (arith, h)

pub upper_product : (n : ℕ) → n < 2 ^ 64 → n / 2 ^ 32 ≡ part 32 32 (of_int 64 (pos n))
upper_product n h =
    let same : n % 2 ^ 64 ≡ n = mod-eq_of_lt h in
    let small : n / 2 ^ 32 < 2 ^ 32 = omega arith in
    sym (mod-eq_of_lt small) ∙ ap (λ m. m / 2 ^ 32 % 2 ^ 32) (sym same)

word_below : (z : ℤ) → mag z ≤ 2 ^ 31 → cast_unsigned w32 z < 2 ^ 32
word_below (pos n) h = omega (arith, h)
word_below (negsuc n) h = omega (arith, h)

passed : (a : ℕ) → a < 2 ^ 32 → cast_signed w32 (cast_unsigned w32 (cast_signed w32 a)) ≡ cast_signed w32 a
passed a h = ap (cast_signed w32) (of_z-to_z w32 a h)

-- a quotient that wraps, as the machine computes it
pub wrapped_quotient : (a b r : ℕ) (x y q : ℤ) → a < 2 ^ 32 → b < 2 ^ 32 → x ≡ cast_signed w32 a → y ≡ cast_signed w32 b
    → q ≡ cast_signed w32 (cast_unsigned w32 (int_div (cast_signed w32 (cast_unsigned w32 x))
    (cast_signed w32 (cast_unsigned w32 y)))) → r ≡ cast_unsigned w32 (cast_signed w32 (cast_unsigned w32 q))
    → r ≡ of_int 32 (int_div (to_int 32 a) (to_int 32 b))
wrapped_quotient a b r x y q h k x_is y_is q_is r_is =
    let z = int_div (to_int 32 a) (to_int 32 b) in
    let small = quotient_small (to_int 32 a) (to_int 32 b) (signed_small a h) in
    let left : cast_signed w32 (cast_unsigned w32 x) ≡ to_int 32 a =
    ap (λ t. cast_signed w32 (cast_unsigned w32 t)) x_is ∙ passed a h ∙ signs a h in
    let right : cast_signed w32 (cast_unsigned w32 y) ≡ to_int 32 b =
    ap (λ t. cast_signed w32 (cast_unsigned w32 t)) y_is ∙ passed b k ∙ signs b k in
    let same : cast_unsigned w32 (cast_signed w32 (cast_unsigned w32 z)) ≡ cast_unsigned w32 z =
    of_z-to_z w32 (cast_unsigned w32 z) (word_below z small) in
    r_is ∙ ap (λ t. cast_unsigned w32 (cast_signed w32 (cast_unsigned w32 t))) (q_is
    ∙ (λ i. cast_signed w32 (cast_unsigned w32 (int_div (left i) (right i)))))
    ∙ ap (λ n. cast_unsigned w32 (cast_signed w32 n)) same ∙ same ∙ words z small

-- a number that has room is its word's number
pub back_again : (z : ℤ) → FitsSigned w32 z → to_int 32 (of_int 32 z) ≡ z
back_again z fits =
    let small : mag z < 2 ^ 31 = fits.sfits in
    ap (to_int 32) (sym (words z (omega (arith, small)))) ∙ sym (signs (cast_unsigned w32 z) (below z small))
    ∙ to_z-of_z w32 z fits
  where
    below : (z : ℤ) → mag z < 2 ^ 31 → cast_unsigned w32 z < 2 ^ 32
    below (pos n) h = omega (arith, h)
    below (negsuc n) h = omega (arith, h)

pub signed_fits : (a : ℕ) → a < 2 ^ 32 → FitsSigned w32 (to_int 32 a)
signed_fits a h = subst (FitsSigned w32) (signs a h) (sfits_to_z {w = w32} {n = a} (record { fits = h }))

pub ruleset machine = (signs, words, quotient_word, remainder_word, shifted_word, upper_word, upper_product)
