-- Products of 64 bits, of words that are signed.
use Rattle.std.specs.Prelude.{◌≡◌, refl, ℕ, ◌+◌, ◌-◌, ◌*◌, ◌%◌, ◌^◌, ◌<◌, ◌≤◌}
use Rattle.std.specs.Prelude.{Bool, true, false, nat_le, ◌==◌}
use Rattle.std.specs.Prelude.{if◌then◌else◌, ℤ, pos, negsuc, ◌*ℤ◌, unsigned_abs}
use Rattle.std.specs.Int.{w64, cast_signed, cast_unsigned, int_wrap}
use Rattle.std.specs.Int.RustNames.{FitsSigned}
use Rattle.std.proofs.Common.{ap, sym, ◌∙◌, arith}
use Rattle.std.proofs.lemmas.Bool.Decides.{nat_tests}
use Rattle.std.proofs.lemmas.Int.{ints, of_z-to_z, to_z_pos, wrapping_mul-bits, int_wrap_fits, fits_signed_mul}
use Rattle.fv_bits.specs.Bits.{part, product, difference, is_negative, sign_extended, of_int}
use Rattle.rv_table.specs.Arithmetic.{signed, upper_half}
use Rattle.rv_table.proofs.NumberLemmas.{wide_words}

wide : (n : ℕ) (b : Bool) → n < 2 ^ 32 → nat_le (2 ^ 31) n ≡ b
    → cast_signed w64 (if b then n + (2 ^ 64 - 2 ^ 32) else n) ≡ (if b then negsuc (2 ^ 32 - 1 - n) else pos n)
wide n true h e = grind (arith, ints, nat_tests)
wide n false h e = grind (arith, ints, nat_tests)

-- the number of a word is that of its 64 bits
pub wide_is : (n : ℕ) → n < 2 ^ 32 → cast_signed w64 (sign_extended 32 64 n) ≡ signed n
wide_is n h = wide n (nat_le (2 ^ 31) n) h refl

fits_64 : (n : ℕ) (b : Bool) → n < 2 ^ 32 → (if b then n + (2 ^ 64 - 2 ^ 32) else n) < 2 ^ 64
fits_64 n true h = omega arith
fits_64 n false h = omega arith

size_of : (n : ℕ) (b : Bool) → n < 2 ^ 32 → nat_le (2 ^ 31) n ≡ b
    → unsigned_abs (if b then negsuc (2 ^ 32 - 1 - n) else pos n) ≤ 2 ^ 31
size_of n true h e = grind (arith, ints, nat_tests)
size_of n false h e = grind (arith, ints, nat_tests)

-- the low 64 bits of a product are those of the signed product, which has room
product_bits : (m n : ℕ) (y z : ℤ) → m < 2 ^ 64 → n < 2 ^ 64 → cast_signed w64 m ≡ y
    → cast_signed w64 n ≡ z → FitsSigned w64 (y *ℤ z) → product 64 m n ≡ of_int 64 (y *ℤ z)
product_bits m n y z h k y_is z_is fits =
    sym (of_z-to_z w64 (m * n % 2 ^ 64) (omega arith))
    ∙ ap (λ (x : ℤ). cast_unsigned w64 x) (wrapping_mul-bits w64 m n h k
    ∙ (λ i. int_wrap w64 (y_is i *ℤ z_is i))
    ∙ int_wrap_fits w64 (y *ℤ z) fits)
    ∙ wide_words (y *ℤ z) fits.sfits

pub upper_signed_is : (a b : ℕ) → a < 2 ^ 32 → b < 2 ^ 32
    → part 32 32 (product 64 (sign_extended 32 64 a) (sign_extended 32 64 b))
    ≡ upper_half (signed a *ℤ signed b)
upper_signed_is a b h k =
    ap (part 32 32) (product_bits (sign_extended 32 64 a) (sign_extended 32 64 b) (signed a) (signed b)
    (fits_64 a (nat_le (2 ^ 31) a) h) (fits_64 b (nat_le (2 ^ 31) b) k) (wide_is a h) (wide_is b k)
    (fits_signed_mul w64 (signed a) (signed b) (2 ^ 31) (2 ^ 31) (size_of a (nat_le (2 ^ 31) a) h refl)
    (size_of b (nat_le (2 ^ 31) b) k refl) (omega arith)))

pub upper_mixed_is : (a b : ℕ) → a < 2 ^ 32 → b < 2 ^ 32
    → part 32 32 (product 64 (sign_extended 32 64 a) b) ≡ upper_half (signed a *ℤ pos b)
upper_mixed_is a b h k =
    ap (part 32 32) (product_bits (sign_extended 32 64 a) b (signed a) (pos b)
    (fits_64 a (nat_le (2 ^ 31) a) h) (omega arith) (wide_is a h) (to_z_pos w64 b (omega arith))
    (fits_signed_mul w64 (signed a) (pos b) (2 ^ 31) (2 ^ 32 - 1) (size_of a (nat_le (2 ^ 31) a) h refl)
    (omega arith) (omega arith)))

-- the highest bit of a word
pub sign_bit : (n : ℕ) → n < 2 ^ 32 → (part 31 1 n == 1) ≡ is_negative 32 n
sign_bit n h = grind (arith, nat_tests)

-- a factor that is 2 ^ 64 - 2 ^ 32 more, in 64 bits: the upper half is less by the other factor
more_is : (x n : ℕ) → part 32 32 (product 64 x (n + (2 ^ 64 - 2 ^ 32)))
    ≡ difference 32 (part 32 32 (product 64 x n)) (x % 2 ^ 32)
more_is x n = omega arith

times : (m n : ℕ) → product 64 m n ≡ product 64 n m
times m n = omega arith

low_half : (n : ℕ) (b : Bool) → n < 2 ^ 32 → (if b then n + (2 ^ 64 - 2 ^ 32) else n) % 2 ^ 32 ≡ n
low_half n true h = omega (arith, h)
low_half n false h = omega (arith, h)

same_part : (n : ℕ) → part 32 32 n ≡ difference 32 (part 32 32 n) 0
same_part n = omega arith

less_by : (x n : ℕ) (b : Bool) → part 32 32 (product 64 x (if b then n + (2 ^ 64 - 2 ^ 32) else n))
    ≡ difference 32 (part 32 32 (product 64 x n)) (if b then x % 2 ^ 32 else 0)
less_by x n true = more_is x n
less_by x n false = same_part (product 64 x n)

-- the upper half where the first word is signed
pub mixed_is : (a b : ℕ) → a < 2 ^ 32 → b < 2 ^ 32
    → difference 32 (upper_half (pos a *ℤ pos b)) (if is_negative 32 a then b else 0) ≡ upper_half (signed a *ℤ pos b)
mixed_is a b h k =
    sym (ap (part 32 32) (times (sign_extended 32 64 a) b)
    ∙ less_by b a (is_negative 32 a)
    ∙ (λ i. difference 32 (part 32 32 (times b a i)) (if is_negative 32 a then low b k i else 0)))
    ∙ upper_mixed_is a b h k
  where
    low : (n : ℕ) → n < 2 ^ 32 → n % 2 ^ 32 ≡ n
    low n h = omega (arith, h)

-- and where the second one is too
pub signed_is : (a b : ℕ) → a < 2 ^ 32 → b < 2 ^ 32
    → difference 32 (upper_half (signed a *ℤ pos b)) (if is_negative 32 b then a else 0)
    ≡ upper_half (signed a *ℤ signed b)
signed_is a b h k =
    sym (less_by (sign_extended 32 64 a) b (is_negative 32 b)
    ∙ (λ i. difference 32 (upper_mixed_is a b h k i)
    (if is_negative 32 b then low_half a (is_negative 32 a) h i else 0)))
    ∙ upper_signed_is a b h k

pub upper_is : (a b : ℕ) → part 32 32 (product 64 a b) ≡ upper_half (pos a *ℤ pos b)
upper_is a b = refl

pub ruleset products = (upper_signed_is, upper_mixed_is, upper_is)
