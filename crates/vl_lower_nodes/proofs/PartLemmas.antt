-- Bits of a vector that was moved by an address.
use Rattle.std.specs.Prelude.{◌≡◌, refl, ℕ, zero, suc, ◌+◌, ◌*◌, ◌/◌, ◌%◌, ◌^◌, ◌<◌, ◌≤◌, Bool, true, false}
use Rattle.std.specs.Prelude.{nat_lt, MatchBool}
use Rattle.std.specs.Prelude.{bit_or, ℤ, pos, negsuc, ◌+ℤ◌, ◌-ℤ◌}
use lib.Bits.{or_zero_r, or_zero_l, or_self}
use Rattle.std.proofs.Common.{ap, sym, ◌∙◌, arith, subst}
use Rattle.std.proofs.Math.Pow.{pow_mono}
use Rattle.std.proofs.Math.Nat.{mod-eq_of_lt, div-eq_of_lt, mul_comm}
use Rattle.std.proofs.lemmas.Int.{ints}
use Rattle.std.proofs.lemmas.Nat.{pow_pos, mul-mod_second}
use Rattle.std.proofs.lemmas.Bool.{ltb-false}
use Rattle.fv_bits.specs.Bits.{part, extended, shifted_left, shifted_right}
use Rattle.fv_bits.proofs.Limits.{low_of_shifted}
use Rattle.vl_size.specs.Size.{bit_at, bits_from}
use Rattle.vl_mean.proofs.SelectLemmas.{bits_up, bits_down, above_all}
use Rattle.vl_lower_nodes.specs.Points.{IsAddress, past}

-- ---- to the right

past_all : (w x n : ℕ) → x < 2 ^ w → w ≤ 128 → past ≤ n → x / 2 ^ n ≡ 0
past_all w x n fits few far = let p : 2 ^ w ≤ 2 ^ n = pow_mono (omega (arith, few, far)) in div-eq_of_lt (omega (arith, p, fits))

none_of : (c : ℕ) → 0 % 2 ^ c ≡ 0
none_of c = mod-eq_of_lt (pow_pos c)

up_is : (c w x n k : ℕ) → x < 2 ^ w → w ≤ 128 → IsAddress n (pos k) → x / 2 ^ n % 2 ^ c ≡ bits_from c w x (pos k)
up_is c w x n k fits few h = by (nat_lt k past) refl h
  where
    whole : x % 2 ^ w ≡ x
    whole = mod-eq_of_lt fits

    by : (t : Bool) → nat_lt k past ≡ t → MatchBool t (n ≡ k) (past ≤ n) → x / 2 ^ n % 2 ^ c ≡ bits_from c w x (pos k)
    by true g e = ap (λ j. x / 2 ^ j % 2 ^ c) e ∙ ap (λ y. y / 2 ^ k % 2 ^ c) (sym whole) ∙ sym (bits_up c w x k)
    by false g far =
        let k_far : past ≤ k = ltb-false k past g in
        ap (λ m. m % 2 ^ c) (past_all w x n fits few far) ∙ none_of c ∙ sym (above_all c w x (pos k) few (omega (arith, ints, k_far)))

up_none : (c w x n k : ℕ) → x < 2 ^ w → w ≤ 128 → IsAddress n (negsuc k) → x / 2 ^ n % 2 ^ c ≡ 0
up_none c w x n k fits few far = ap (λ m. m % 2 ^ c) (past_all w x n fits few far) ∙ none_of c

-- ---- to the left

down_is : (c w x m k : ℕ) → x < 2 ^ w → c ≤ 128 → IsAddress m (pos (suc k)) → x * 2 ^ m % 2 ^ c ≡ bits_from c w x (negsuc k)
down_is c w x m k fits few h = by (nat_lt (suc k) past) refl h
  where
    whole : x % 2 ^ w ≡ x
    whole = mod-eq_of_lt fits

    by : (t : Bool) → nat_lt (suc k) past ≡ t → MatchBool t (m ≡ suc k) (past ≤ m)
        → x * 2 ^ m % 2 ^ c ≡ bits_from c w x (negsuc k)
    by true g e =
        let f : m ≡ k + 1 = omega (arith, e) in
        ap (λ j. x * 2 ^ j % 2 ^ c) f ∙ ap (λ y. y * 2 ^ (k + 1) % 2 ^ c) (sym whole) ∙ sym (bits_down c w x k)
    by false g far =
        let k_far : past ≤ suc k = ltb-false (suc k) past g in
        low_of_shifted x m c (omega (arith, far, few)) ∙ sym (low_of_shifted (x % 2 ^ w) (k + 1) c (omega (arith, k_far, few)))
        ∙ sym (bits_down c w x k)

down_none : (c x m k : ℕ) → c ≤ 128 → IsAddress m (negsuc k) → x * 2 ^ m % 2 ^ c ≡ 0
down_none c x m k few far = low_of_shifted x m c (omega (arith, far, few))

-- ---- both

cut_first : (c x m : ℕ) → x % 2 ^ c * 2 ^ m % 2 ^ c ≡ x * 2 ^ m % 2 ^ c
cut_first c x m =
    ap (λ n. n % 2 ^ c) (mul_comm (x % 2 ^ c) (2 ^ m)) ∙ mul-mod_second (2 ^ m) x (2 ^ c)
    ∙ ap (λ n. n % 2 ^ c) (mul_comm (2 ^ m) x)

both_are : (c w x n m : ℕ) (p q : ℤ) → x < 2 ^ w → w ≤ 128 → c ≤ 128 → p +ℤ q ≡ pos 0 → IsAddress n p → IsAddress m q
    → bit_or (x / 2 ^ n % 2 ^ c) (x * 2 ^ m % 2 ^ c) ≡ bits_from c w x p
both_are c w x n m (pos zero) (pos zero) fits few short e up down =
    let same : x * 2 ^ m % 2 ^ c ≡ x / 2 ^ n % 2 ^ c =
    ap (λ j. x * 2 ^ j % 2 ^ c) down ∙ ap (λ y. y % 2 ^ c) (omega arith) ∙ ap (λ j. x / 2 ^ j % 2 ^ c) (sym up) in
    ap (bit_or (x / 2 ^ n % 2 ^ c)) same ∙ or_self (x / 2 ^ n % 2 ^ c) ∙ up_is c w x n 0 fits few up
both_are c w x n m (pos (suc k)) (negsuc j) fits few short e up down =
    ap (bit_or (x / 2 ^ n % 2 ^ c)) (down_none c x m j short down) ∙ or_zero_r (x / 2 ^ n % 2 ^ c) ∙ up_is c w x n (suc k) fits few up
both_are c w x n m (negsuc k) (pos (suc j)) fits few short e up down =
    let f : j ≡ k = omega (arith, ints, e) in
    ap (λ y. bit_or y (x * 2 ^ m % 2 ^ c)) (up_none c w x n k fits few up) ∙ or_zero_l (x * 2 ^ m % 2 ^ c)
    ∙ down_is c w x m k fits short (subst (λ i. IsAddress m (pos (suc i))) f down)
both_are c w x n m (pos zero) (pos (suc j)) fits few short e up down = absurd (omega (arith, ints, e))
both_are c w x n m (pos zero) (negsuc j) fits few short e up down = absurd (omega (arith, ints, e))
both_are c w x n m (pos (suc k)) (pos j) fits few short e up down = absurd (omega (arith, ints, e))
both_are c w x n m (negsuc k) (pos zero) fits few short e up down = absurd (omega (arith, ints, e))
both_are c w x n m (negsuc k) (negsuc j) fits few short e up down = absurd (omega (arith, ints, e))

-- the bits are those of the vector
pub within_is : (c w x k : ℕ) (p : ℤ) → p ≡ pos k → x < 2 ^ w → part k c x ≡ bits_from c w x p
within_is c w x k p e fits =
    ap (λ y. y / 2 ^ k % 2 ^ c) (sym (mod-eq_of_lt fits)) ∙ sym (bits_up c w x k) ∙ ap (bits_from c w x) (sym e)

-- a place that doesn't vary
pub fixed_is : (c w x n m : ℕ) (p : ℤ) → x < 2 ^ w → w ≤ 128 → c ≤ 128 → IsAddress n p → IsAddress m (pos 0 -ℤ p)
    → bit_or (extended w c false (shifted_right x n)) (shifted_left c (extended w c false x) m) ≡ bits_from c w x p
fixed_is c w x n m p fits few short up down =
    ap (bit_or (x / 2 ^ n % 2 ^ c)) (cut_first c x m)
    ∙ both_are c w x n m p (pos 0 -ℤ p) fits few short (omega (arith, ints)) up down

-- one bit is a part of one
pub bit_is : (w x n : ℕ) (p : ℤ) → x < 2 ^ w → w ≤ 128 → IsAddress n p → part 0 1 (shifted_right x n) ≡ bit_at w x p
bit_is w x n (pos k) fits few h =
    ap (λ y. y % 2 ^ 1) (omega arith) ∙ up_is 1 w x n k fits few h ∙ omega arith
bit_is w x n (negsuc k) fits few h = ap (λ y. y % 2 ^ 1) (omega arith) ∙ up_none 1 w x n k fits few h
