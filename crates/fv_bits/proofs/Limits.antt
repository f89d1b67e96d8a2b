-- Numbers of 128 bits against numbers of fewer.
use Rattle.std.specs.Prelude.{◌≡◌, refl, ℕ, zero, suc, ◌+◌, ◌-◌, ◌*◌, ◌/◌, ◌%◌, ◌^◌, ◌<◌, ◌≤◌, ◌==◌, false, not}
use Rattle.std.specs.Prelude.{if◌then◌else◌, ℤ, pos, negsuc, neg_ℤ, nat_abs, int_div, int_rem}
use Rattle.std.proofs.Common.{ap, sym, ◌∙◌, arith}
use Rattle.std.proofs.Math.Pow.{mod-mod-pow, pow_mono}
use Rattle.std.proofs.Math.Nat.{mul-le-mul_right, mul_assoc, mul-mod_left, div-eq_of_lt, mod-eq_of_lt, mod_self}
use Rattle.std.proofs.Math.Nat.{add-mod-mod, mod-le, div-le_self}
use Rattle.std.proofs.lemmas.Nat.{and_mask, pow_pos, pow-add, shr_le, and_le_l, or_lt, xor_lt, shl_whole, shr_split}
use Rattle.std.proofs.lemmas.Nat.{mod_below}
use Rattle.fv_bits.specs.Bits.{of_int, is_below_zero, is_one_below_zero, negative, parity}

pub low_of_128 : (n w : ℕ) → w ≤ 128 → n % 2 ^ 128 % 2 ^ w ≡ n % 2 ^ w
low_of_128 n w h =
    let e : 128 - w + w ≡ 128 = omega arith in
    ap (λ k. n % 2 ^ k % 2 ^ w) (sym e) ∙ mod-mod-pow n (128 - w) w

pub longer_fits : (n w : ℕ) → w ≤ 128 → n < 2 ^ w → n < 2 ^ 128
longer_fits n w h k = let p : 2 ^ w ≤ 2 ^ 128 = pow_mono h in omega (arith, p, k)

pub ones_le : (w : ℕ) → w ≤ 128 → 2 ^ w ≤ 2 ^ 128
ones_le w h = pow_mono h

pub shifted_out : (n k : ℕ) → n < 2 ^ 128 → 128 ≤ k → n / 2 ^ k ≡ 0
shifted_out n k h low = let p : 2 ^ 128 ≤ 2 ^ k = pow_mono low in div-eq_of_lt (omega (arith, p, h))

pub low_of_shifted : (n k w : ℕ) → w ≤ k → n * 2 ^ k % 2 ^ w ≡ 0
low_of_shifted n k w h =
    let e : k - w + w ≡ k = omega arith in
    ap (λ j. n * 2 ^ j % 2 ^ w) (sym e) ∙ ap (λ m. n * m % 2 ^ w) (pow-add 2 (k - w) w)
    ∙ ap (λ m. m % 2 ^ w) (sym (mul_assoc n (2 ^ (k - w)) (2 ^ w))) ∙ mul-mod_left (n * 2 ^ (k - w)) (2 ^ w)

pub ruleset bits = (and_mask, low_of_128, low_of_shifted, longer_fits, ones_le, shifted_out, pow_pos, shr_le)

-- the negative of a number is what is left to 2 ^ w, and of 0 it is 0
pub negative_of : (w n : ℕ) → 0 < n → n < 2 ^ w → (2 ^ w - n) % 2 ^ w ≡ 2 ^ w - n
negative_of w n some fits = mod-eq_of_lt (omega arith)

pub negative_of_0 : (w : ℕ) → (2 ^ w - 0) % 2 ^ w ≡ 0
negative_of_0 w = let e : 2 ^ w - 0 ≡ 2 ^ w = omega arith in ap (λ n. n % 2 ^ w) e ∙ mod_self (2 ^ w)

pub add_low : (w m n : ℕ) → (m + n % 2 ^ w) % 2 ^ w ≡ (m + n) % 2 ^ w
add_low w m n = add-mod-mod m n (2 ^ w)

pub low_of_fits : (w n : ℕ) → n < 2 ^ w → n % 2 ^ w ≡ n
low_of_fits w n fits = mod-eq_of_lt fits

-- the bits of a negated number
pub of_int_negative : (w n : ℕ) → n < 2 ^ w → of_int w (neg_ℤ (pos n)) ≡ negative w n
of_int_negative w zero fits = low_of_fits w 0 fits ∙ sym (negative_of_0 w)
of_int_negative w (suc n) fits =
    let less : n < 2 ^ w = omega arith in
    ap (λ k. 2 ^ w - 1 - k) (low_of_fits w n less) ∙ omega (arith, negative_of w (suc n) (omega arith) fits)

pub ruleset negatives = (bits, negative_of, negative_of_0, add_low, low_of_fits, of_int_negative)

pub wider_le : (m w : ℕ) → m ≤ w → 2 ^ m ≤ 2 ^ w
wider_le m w h = pow_mono h

pub ruleset wider = (bits, wider_le)

-- a number of two parts, the low one of w bits
pub joined_fits : (m w a b : ℕ) → a < 2 ^ m → b < 2 ^ w → a * 2 ^ w + b < 2 ^ (m + w)
joined_fits m w a b h k =
    let p : suc a * 2 ^ w ≤ 2 ^ m * 2 ^ w = mul-le-mul_right (2 ^ w) h in
    let e : 2 ^ (m + w) ≡ 2 ^ m * 2 ^ w = pow-add 2 m w in
    omega (arith, p, e)

pub joined_whole : (m w a : ℕ) → a < 2 ^ m → m + w ≤ 128 → a * 2 ^ w % 2 ^ 128 ≡ a * 2 ^ w
joined_whole m w a h few = shl_whole a m w 128 h few

pub ruleset wholes = (bits, joined_fits, joined_whole)

pub ruleset bitwise = (bits, and_le_l, or_lt, xor_lt)

-- quotients and remainders of magnitudes
pub quotient_of : (a b : ℤ) → int_div a b
    ≡ (if is_one_below_zero a b then neg_ℤ (pos (nat_abs a / nat_abs b)) else pos (nat_abs a / nat_abs b))
quotient_of (pos a) (pos b) = refl
quotient_of (pos a) (negsuc b) = refl
quotient_of (negsuc a) (pos b) = refl
quotient_of (negsuc a) (negsuc b) = refl

pub remainder_of : (a b : ℤ) → int_rem a b
    ≡ (if is_below_zero a then neg_ℤ (pos (nat_abs a % nat_abs b)) else pos (nat_abs a % nat_abs b))
remainder_of (pos a) b = refl
remainder_of (negsuc a) b = refl

pub ruleset quotients = (bits, low_of_fits, div-le_self, mod-le, quotient_of, remainder_of)

pub parity_of_0 : (w n : ℕ) → w ≡ 0 → parity w n ≡ false
parity_of_0 zero n e = refl
parity_of_0 (suc w) n e = absurd (omega arith)

pub parity_next : (w n : ℕ) → 0 < w → parity w n
    ≡ (if n % 2 == 1 then not (parity (w - 1) (n / 2)) else parity (w - 1) (n / 2))
parity_next zero n h = absurd (omega arith)
parity_next (suc w) n h =
    let e : suc w - 1 ≡ w = omega arith in
    λ i. if n % 2 == 1 then not (parity (sym e i) (n / 2)) else parity (sym e i) (n / 2)

pub ruleset parities = (parity_of_0, parity_next)

-- a number of 128 bits has more bits
pub within_wide : (n w : ℕ) → n < 2 ^ 128 → 128 ≤ w → n < 2 ^ w
within_wide n w h k = let p : 2 ^ 128 ≤ 2 ^ w = pow_mono k in omega (arith, p, h)

-- a number has so many bits exactly where none is left behind them
pub none_left : (n w : ℕ) → n / 2 ^ w ≡ 0 → n < 2 ^ w
none_left n w h = omega (arith, shr_split n w, ap (λ q. q * 2 ^ w) h, mod_below n (2 ^ w) (pow_pos w))

pub left_of_fits : (n w : ℕ) → n < 2 ^ w → n / 2 ^ w ≡ 0
left_of_fits n w h = div-eq_of_lt h
