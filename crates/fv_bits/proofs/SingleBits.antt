-- Single bits of what operators make of numbers: bit i of n is `bit_at n i`. Of `bit_and`, `bit_or` and `bit_xor` std
-- has them.
use Rattle.std.specs.Prelude.{◌≡◌, refl, ℕ, zero, suc, ◌+◌, ◌-◌, ◌*◌, ◌/◌, ◌%◌, ◌^◌, ◌<◌, ◌≤◌, nat_le, Bool, true}
use Rattle.std.specs.Prelude.{false, if◌then◌else◌}
use Rattle.std.specs.Int.{bit_at}
use Rattle.std.proofs.Common.{ap, sym, ◌∙◌, arith}
use Rattle.std.proofs.Math.Nat.{div-eq_of_lt, div-one}
use Rattle.std.proofs.lemmas.Bool.Decides.{nat_tests}
use Rattle.std.proofs.lemmas.Nat.{pow_pos, pow-add, mod_below, shr-shr, div-add-mod', div-mul-add, mod-pow-add}
use Rattle.std.proofs.lemmas.Nat.Bits.{bit_at-zero, bit_at-suc, bit_at_above, bit_at_ones, bit_at_cat_low}
use Rattle.std.proofs.lemmas.Nat.Bits.{bit_at_cat_high}
use Rattle.fv_bits.specs.Bits.{low, part, joined, sum, carry, complement, is_negative, sign_extended, shifted_left}
use Rattle.fv_bits.specs.Bits.{shifted_right}

pub bit_at_low : (w n i : ℕ) → i < w → bit_at (low w n) i ≡ bit_at n i
bit_at_low w n i h = sym (bit_at_cat_low (n / 2 ^ w) w (n % 2 ^ w) i h) ∙ ap (λ m. bit_at m i) (div-add-mod' n (2 ^ w))

pub bit_at_low_past : (w n i : ℕ) → w ≤ i → bit_at (low w n) i ≡ 0
bit_at_low_past w n i h = bit_at_above (n % 2 ^ w) w i (mod_below n (2 ^ w) (pow_pos w)) h

pub bit_at_right : (n k i : ℕ) → bit_at (shifted_right n k) i ≡ bit_at n (k + i)
bit_at_right n k i = ap (λ m. m % 2) (shr-shr n k i)

pub bit_at_part : (at w n i : ℕ) → i < w → bit_at (part at w n) i ≡ bit_at n (at + i)
bit_at_part at w n i h = bit_at_low w (n / 2 ^ at) i h ∙ bit_at_right n at i

pub bit_at_left_low : (w n k i : ℕ) → i < w → i < k → bit_at (shifted_left w n k) i ≡ 0
bit_at_left_low w n k i within h =
    let e : n * 2 ^ k ≡ n * 2 ^ k + 0 = omega arith in
    bit_at_low w (n * 2 ^ k) i within ∙ ap (λ m. bit_at m i) e ∙ bit_at_cat_low n k 0 i h ∙ bit_at-zero i

pub bit_at_left : (w n k i : ℕ) → i < w → k ≤ i → bit_at (shifted_left w n k) i ≡ bit_at n (i - k)
bit_at_left w n k i within h =
    let e : n * 2 ^ k ≡ n * 2 ^ k + 0 = omega arith in
    bit_at_low w (n * 2 ^ k) i within ∙ ap (λ m. bit_at m i) e ∙ bit_at_cat_high n k 0 i (pow_pos k) h

pub bit_at_joined_low : (w high behind i : ℕ) → i < w → bit_at (joined w high behind) i ≡ bit_at behind i
bit_at_joined_low w high behind i h = bit_at_cat_low high w behind i h

pub bit_at_joined_high : (w high behind i : ℕ) → behind < 2 ^ w → w ≤ i
    → bit_at (joined w high behind) i ≡ bit_at high (i - w)
bit_at_joined_high w high behind i fits h = bit_at_cat_high high w behind i fits h

pub bit_at_complement : (w n i : ℕ) → n < 2 ^ w → i < w → bit_at (complement w n) i ≡ 1 - bit_at n i
bit_at_complement zero n i fits h = absurd (omega arith)
bit_at_complement (suc w) n zero fits h =
    let twice : 2 ^ suc w ≡ 2 * 2 ^ w = omega arith in
    ap (λ x. x % 2) (div-one (complement (suc w) n)) ∙ omega (arith, twice, ap (λ x. x % 2) (div-one n))
bit_at_complement (suc w) n (suc i) fits h =
    let twice : 2 ^ suc w ≡ 2 * 2 ^ w = omega arith in
    let half : complement (suc w) n / 2 ≡ complement w (n / 2) = omega (arith, twice) in
    bit_at-suc (complement (suc w) n) i ∙ ap (λ x. bit_at x i) half
    ∙ bit_at_complement w (n / 2) i (omega (arith, twice)) (omega arith) ∙ ap (λ b. 1 - b) (sym (bit_at-suc n i))

-- ---- signs

-- the highest bit of m is that of the sign
pub sign_bit : (m n : ℕ) → 0 < m → n < 2 ^ m → is_negative m n ≡ nat_le 1 (bit_at n (m - 1))
sign_bit m n some fits = by (nat_le (2 ^ (m - 1)) n) refl
  where
    k : ℕ
    k = m - 1

    whole : 2 ^ m ≡ 2 * 2 ^ k
    whole = let e : m ≡ 1 + k = omega arith in ap (λ j. 2 ^ j) e ∙ pow-add 2 1 k

    by : (b : Bool) → nat_le (2 ^ k) n ≡ b → b ≡ nat_le 1 (bit_at n k)
    by true e =
        let over : 2 ^ k ≤ n = grind (arith, nat_tests, e) in
        let one : n / 2 ^ k ≡ 1 =
        (let split : n ≡ 1 * 2 ^ k + (n - 2 ^ k) = omega (arith, over) in
        ap (λ x. x / 2 ^ k) split ∙ div-mul-add 1 (2 ^ k) (n - 2 ^ k) (omega (arith, over, whole, fits))) in
        ap (λ x. nat_le 1 (x % 2)) (sym one)
    by false e =
        let under : n < 2 ^ k = grind (arith, nat_tests, e) in
        ap (λ x. nat_le 1 (x % 2)) (sym (div-eq_of_lt under))

extended_is : (m w n : ℕ) → m ≤ w → n + (2 ^ w - 2 ^ m) ≡ (2 ^ (w - m) - 1) * 2 ^ m + n
extended_is m w n h =
    let e : 2 ^ w ≡ 2 ^ (w - m) * 2 ^ m = (let f : w ≡ w - m + m = omega arith in ap (λ j. 2 ^ j) f
    ∙ pow-add 2 (w - m) m) in
    let q = 2 ^ (w - m) - 1 in
    let p : 2 ^ (w - m) ≡ q + 1 = omega (arith, pow_pos (w - m)) in
    let f : 2 ^ w ≡ (q + 1) * 2 ^ m = e ∙ ap (λ x. x * 2 ^ m) p in
    omega (arith, f)

pub bit_at_extended_low : (m w n i : ℕ) → m ≤ w → i < m → bit_at (sign_extended m w n) i ≡ bit_at n i
bit_at_extended_low m w n i h within = by (is_negative m n)
  where
    by : (b : Bool) → bit_at (if b then n + (2 ^ w - 2 ^ m) else n) i ≡ bit_at n i
    by true = ap (λ x. bit_at x i) (extended_is m w n h) ∙ bit_at_cat_low (2 ^ (w - m) - 1) m n i within
    by false = refl

-- the bits above are 1 exactly where the number is negative
pub bit_at_extended_high : (m w n i : ℕ) → n < 2 ^ m → m ≤ i → i < w
    → bit_at (sign_extended m w n) i ≡ (if is_negative m n then 1 else 0)
bit_at_extended_high m w n i fits h within = by (is_negative m n)
  where
    by : (b : Bool) → bit_at (if b then n + (2 ^ w - 2 ^ m) else n) i ≡ (if b then 1 else 0)
    by true =
        ap (λ x. bit_at x i) (extended_is m w n (omega arith)) ∙ bit_at_cat_high (2 ^ (w - m) - 1) m n i fits h
        ∙ bit_at_ones (w - m) (i - m) (omega arith)
    by false = bit_at_above n m i fits h

-- ---- sums

-- a number of whole parts and a rest
parts_divided : (q p r : ℕ) → 0 < p → (q * p + r) / p ≡ q + r / p
parts_divided q p r some =
    let whole : q * p + r ≡ (q + r / p) * p + r % p = omega (arith, div-add-mod' r p) in
    ap (λ x. x / p) whole ∙ div-mul-add (q + r / p) p (r % p) (mod_below r p some)

-- the bits from i on of a sum with a carry
pub sum_divided : (i c m n : ℕ) → (m + n + c) / 2 ^ i ≡ m / 2 ^ i + n / 2 ^ i + carry i c m n
sum_divided i c m n =
    let p = 2 ^ i in
    let whole : m + n + c ≡ (m / p + n / p) * p
    + (m % p + n % p + c) = omega (arith, div-add-mod' m p, div-add-mod' n p) in
    ap (λ x. x / p) whole ∙ parts_divided (m / p + n / p) p (m % p + n % p + c) (pow_pos i)

-- a bit of a sum is that of three bits, of which one is carried
pub bit_at_sum : (w m n i : ℕ) → i < w → bit_at (sum w m n) i ≡ (bit_at m i + bit_at n i + carry i 0 m n) % 2
bit_at_sum w m n i h =
    let e : m + n ≡ m + n + 0 = omega arith in
    bit_at_low w (m + n) i h ∙ ap (λ x. x / 2 ^ i % 2) e ∙ ap (λ x. x % 2) (sum_divided i 0 m n) ∙ omega arith

-- what is carried on: one or none where two of the three bits are 1
pub carry_next : (i c m n : ℕ) → carry (i + 1) c m n ≡ (bit_at m i + bit_at n i + carry i c m n) / 2
carry_next i c m n =
    let p = 2 ^ i in
    let e : 1 + i ≡ i + 1 = omega arith in
    let ms : m % 2 ^ (i + 1) ≡ m / p % 2 * p + m % p = ap (λ k. m % 2 ^ k) (sym e) ∙ mod-pow-add m 1 i in
    let ns : n % 2 ^ (i + 1) ≡ n / p % 2 * p + n % p = ap (λ k. n % 2 ^ k) (sym e) ∙ mod-pow-add n 1 i in
    let whole : m % 2 ^ (i + 1) + n % 2 ^ (i + 1) + c ≡ (m / p % 2 + n / p % 2) * p
    + (m % p + n % p + c) = omega (arith, ms, ns) in
    ap (λ x. x / 2 ^ (i + 1)) whole
    ∙ sym (shr-shr ((m / p % 2 + n / p % 2) * p + (m % p + n % p + c)) i 1)
    ∙ ap (λ x. x / 2) (parts_divided (m / p % 2 + n / p % 2) p (m % p + n % p + c) (pow_pos i))
