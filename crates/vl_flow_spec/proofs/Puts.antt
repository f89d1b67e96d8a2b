-- Bits of a number in which a bit was changed.
use Rattle.std.specs.Prelude.{◌≡◌, ℕ, suc, ◌+◌, ◌-◌, ◌*◌, ◌/◌, ◌%◌, ◌^◌, ◌<◌, ◌≤◌}
use Rattle.std.proofs.Common.{ap, sym, ◌∙◌, arith, ◌⊎◌, inl, inr}
use Rattle.std.proofs.Math.Nat.{add-mul, mul-le-mul_right}
use Rattle.std.proofs.Math.Pow.{shr_lt}
use Rattle.std.proofs.lemmas.Nat.{pow_pos, pow-add, shr_split, mod_below, div-add-mod'}
use Rattle.std.proofs.lemmas.Nat.Bits.{bit_at_cat_low, bit_at_cat_high, bit_at_lowest}
use Rattle.std.proofs.lemmas.Bool.{cases_lt}
use Rattle.vl_mean.specs.Targets.{bit_of, with_bit}

-- what stands above the bit, the bit, and what stands below it
with_bit_parts : (x k b : ℕ) → with_bit x k b ≡ (x / 2 ^ k / 2 * 2 + b) * 2 ^ k + x % 2 ^ k
with_bit_parts x k b =
    let q = x / 2 ^ k in
    let h = q / 2 * 2 in
    let e : h + q % 2 ≡ q = div-add-mod' q 2 in
    omega (arith, shr_split x k, ap (λ z. z * 2 ^ k) e, add-mul h (q % 2) (2 ^ k), add-mul h b (2 ^ k))

whole_parts : (x k : ℕ) → x ≡ (x / 2 ^ k / 2 * 2 + bit_of x k) * 2 ^ k + x % 2 ^ k
whole_parts x k =
    let q = x / 2 ^ k in
    let e : q / 2 * 2 + q % 2 ≡ q = div-add-mod' q 2 in
    omega (arith, shr_split x k, ap (λ z. z * 2 ^ k) e)

low_bit : (h b : ℕ) → b < 2 → (h * 2 + b) % 2 ≡ b
low_bit h b small = omega arith

pub bit_here : (x k b : ℕ) → b < 2 → bit_of (with_bit x k b) k ≡ b
bit_here x k b small =
    let a = x / 2 ^ k / 2 * 2 + b in
    let none : k - k ≡ 0 = omega arith in
    ap (λ n. bit_of n k) (with_bit_parts x k b)
    ∙ bit_at_cat_high a k (x % 2 ^ k) k (mod_below x (2 ^ k) (pow_pos k)) (omega arith)
    ∙ ap (λ j. bit_of a j) none ∙ bit_at_lowest a ∙ low_bit (x / 2 ^ k / 2) b small

bit_of_parts : (h b r k j : ℕ) → b < 2 → r < 2 ^ k → k < j → bit_of ((h * 2 + b) * 2 ^ k + r) j ≡ bit_of h (j - k - 1)
bit_of_parts h b r k j small fits above =
    bit_at_cat_high (h * 2 + b) k r j fits (omega arith) ∙ bit_at_cat_high h 1 b (j - k) small (omega arith)

pub bit_there : (x k b j : ℕ) → b < 2 → (j ≡ k → ⊥) → bit_of (with_bit x k b) j ≡ bit_of x j
bit_there x k b j small other =
    ap (λ n. bit_of n j) (with_bit_parts x k b) ∙ by (cases_lt j k) ∙ ap (λ n. bit_of n j) (sym (whole_parts x k))
  where
    by : (j < k) ⊎ (k ≤ j) → bit_of ((x / 2 ^ k / 2 * 2 + b) * 2 ^ k + x % 2 ^ k) j
        ≡ bit_of ((x / 2 ^ k / 2 * 2 + bit_of x k) * 2 ^ k + x % 2 ^ k) j
    by (inl below) =
        bit_at_cat_low (x / 2 ^ k / 2 * 2 + b) k (x % 2 ^ k) j below
        ∙ sym (bit_at_cat_low (x / 2 ^ k / 2 * 2 + bit_of x k) k (x % 2 ^ k) j below)
    by (inr from) =
        let above : k < j = omega (arith, other, from) in
        let fits = mod_below x (2 ^ k) (pow_pos k) in
        bit_of_parts (x / 2 ^ k / 2) b (x % 2 ^ k) k j small fits above
        ∙ sym (bit_of_parts (x / 2 ^ k / 2) (bit_of x k) (x % 2 ^ k) k j (mod_below (x / 2 ^ k) 2 (omega arith)) fits above)

joined_fits : (m w a b : ℕ) → a < 2 ^ m → b < 2 ^ w → a * 2 ^ w + b < 2 ^ (m + w)
joined_fits m w a b h k =
    let p : suc a * 2 ^ w ≤ 2 ^ m * 2 ^ w = mul-le-mul_right (2 ^ w) h in
    let e : 2 ^ (m + w) ≡ 2 ^ m * 2 ^ w = pow-add 2 m w in
    omega (arith, p, e)

pub with_bit_fits : (x k b w : ℕ) → x < 2 ^ w → k < w → b < 2 → with_bit x k b < 2 ^ w
with_bit_fits x k b w fits below small =
    let m = w - suc k in
    let e : m + 1 + k ≡ w = omega arith in
    let f : x < 2 ^ (m + 1 + k) = omega (arith, fits, ap (λ j. 2 ^ j) e) in
    let q : x / 2 ^ k < 2 ^ (m + 1) = shr_lt (m + 1) k f in
    let h : x / 2 ^ k / 2 < 2 ^ m = shr_lt m 1 q in
    let a : x / 2 ^ k / 2 * 2 + b < 2 ^ (m + 1) = omega (arith, h, small, pow-add 2 m 1) in
    omega (arith, with_bit_parts x k b, joined_fits (m + 1) k (x / 2 ^ k / 2 * 2 + b) (x % 2 ^ k) a (mod_below x (2 ^ k) (pow_pos k)), ap (λ j. 2 ^ j) e)
