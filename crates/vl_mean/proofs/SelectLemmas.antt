-- Bits of a number from a place on.
use Rattle.std.specs.Prelude.{◌≡◌, refl, ℕ, zero, suc, ◌+◌, ◌-◌, ◌*◌, ◌/◌, ◌%◌, ◌^◌, ◌<◌, ◌≤◌, max, min, Some, None}
use Rattle.std.specs.Prelude.{ℤ, pos, negsuc, ◌+ℤ◌, ◌-ℤ◌, ◌<ℤ◌, ◌≤ℤ◌, neg_ℤ, nat_abs, int_lt, Bool, true, false, ◌&&◌}
use Rattle.std.specs.Prelude.{not, nat_le, if◌then◌else◌}
use Rattle.std.proofs.Common.{ap, sym, ◌∙◌, arith, lit<}
use Rattle.std.proofs.Math.Nat.{mod-one, div-one, mul-div_left, div-eq_of_lt, div-div-eq-div-mul, mod-lt, mul_assoc}
use Rattle.std.proofs.Math.Nat.{mul-mod_left, mod-eq_of_lt}
use Rattle.std.proofs.Math.IntN.{+ℤ_idr}
use Rattle.std.proofs.Math.Pow.{mod-mod-pow, pow_mono}
use Rattle.std.proofs.lemmas.Nat.{mod-pow-add, pow_pos, pow-add, div-mul-add}
use Rattle.std.proofs.lemmas.Int.{to_z-of_z}
use mir.Val.{SFits, of_z, to_z}
use mir.Syntax.{w128}
use Rattle.fv_bits.proofs.Limits.{low_of_shifted}
use Rattle.fv_bits.specs.Bits.{extended, is_negative, is_below_zero}
use Rattle.vl_size.specs.declared.decl.Decl.{Decl}
use Rattle.vl_size.specs.Size.{bit_at, bits_from, offset_of, descends}
use Rattle.vl_size.specs.Place.{is_near}

next_negative : (k : ℕ) → negsuc (suc k) +ℤ pos 1 ≡ negsuc k
next_negative k = grind arith

-- a part of the lowest bits
low_part : (x j k : ℕ) → x % 2 ^ (j + k) / 2 ^ k ≡ x / 2 ^ k % 2 ^ j
low_part x j k =
    ap (λ m. m / 2 ^ k) (mod-pow-add x j k) ∙ div-mul-add (x / 2 ^ k % 2 ^ j) (2 ^ k) (x % 2 ^ k) (mod-lt x (pow_pos k))

bit_above : (w x k : ℕ) → w ≤ k → x % 2 ^ w / 2 ^ k ≡ 0
bit_above w x k h = let p : 2 ^ w ≤ 2 ^ k = pow_mono h in div-eq_of_lt (omega (arith, p, mod-lt x (pow_pos w)))

bit_below : (w x k : ℕ) → k < w → x % 2 ^ w / 2 ^ k % 2 ≡ x / 2 ^ k % 2
bit_below w x k h =
    let e : w ≡ w - 1 - k + 1 + k = omega arith in
    ap (λ n. x % 2 ^ n / 2 ^ k % 2) e ∙ ap (λ m. m % 2) (low_part x (w - 1 - k + 1) k)
    ∙ mod-mod-pow (x / 2 ^ k) (w - 1 - k) 1

bit_up : (w x k : ℕ) → bit_at w x (pos k) ≡ x % 2 ^ w / 2 ^ k % 2
bit_up w x k = by (nat_le w k) refl
  where
    by : (b : Bool) → nat_le w k ≡ b → (if b then 0 else x / 2 ^ k % 2) ≡ x % 2 ^ w / 2 ^ k % 2
    by true h = ap (λ m. m % 2) (sym (bit_above w x k (grind (arith, h))))
    by false h = sym (bit_below w x k (grind (arith, h)))

halved : (y k : ℕ) → y / 2 ^ (k + 1) ≡ y / 2 ^ k / 2
halved y k = ap (λ m. y / m) (pow-add 2 k 1) ∙ sym (div-div-eq-div-mul y (2 ^ k) 2)

-- from a place on upwards
pub bits_up : (n w x k : ℕ) → bits_from n w x (pos k) ≡ x % 2 ^ w / 2 ^ k % 2 ^ n
bits_up zero w x k = sym (mod-one (x % 2 ^ w / 2 ^ k))
bits_up (suc n) w x k =
    let y : ℕ = x % 2 ^ w / 2 ^ k in
    let rest : bits_from n w x (pos (k + 1)) ≡ y / 2 % 2 ^ n = bits_up n w x (k + 1)
    ∙ ap (λ m. m % 2 ^ n) (halved (x % 2 ^ w) k) in
    let whole = mod-pow-add y n 1 in
    let first = bit_up w x k in
    let e : n + 1 ≡ suc n = omega arith in
    omega (arith, rest, whole, first) ∙ ap (λ m. y % 2 ^ m) e

doubled : (m n : ℕ) → 2 * (m % 2 ^ n) ≡ m * 2 % 2 ^ (suc n)
doubled m n =
    let e : n + 1 ≡ suc n = omega arith in
    let half : m * 2 / 2 ≡ m = mul-div_left m (lit< tt) in
    let even : m * 2 % 2 ≡ 0 = mul-mod_left m 2 in
    let whole : m * 2 % 2 ^ (n + 1) ≡ m % 2 ^ n * 2 + 0 = mod-pow-add (m * 2) n 1
    ∙ ap (λ h. h % 2 ^ n * 2 ^ 1 + m * 2 % 2) half ∙ ap (λ b. m % 2 ^ n * 2 + b) even in
    omega (arith, whole) ∙ ap (λ j. m * 2 % 2 ^ j) e

twice : (y k : ℕ) → y * 2 ^ (k + 1) * 2 ≡ y * 2 ^ (suc k + 1)
twice y k =
    mul_assoc y (2 ^ (k + 1)) 2 ∙ ap (λ m. y * m) (sym (pow-add 2 (k + 1) 1)) ∙ ap (λ j. y * 2 ^ j) (omega arith)

-- from a place below the lowest on
pub bits_down : (n w x k : ℕ) → bits_from n w x (negsuc k) ≡ (x % 2 ^ w) * 2 ^ (k + 1) % 2 ^ n
bits_down zero w x k = sym (mod-one ((x % 2 ^ w) * 2 ^ (k + 1)))
bits_down (suc n) w x zero =
    let rest : bits_from n w x (pos 0) ≡ x % 2 ^ w % 2 ^ n = bits_up n w x 0
    ∙ ap (λ m. m % 2 ^ n) (div-one (x % 2 ^ w)) in
    omega (arith, rest) ∙ doubled (x % 2 ^ w) n
bits_down (suc n) w x (suc k) =
    let rest : bits_from n w x (negsuc (suc k) +ℤ pos 1)
    ≡ (x % 2 ^ w) * 2 ^ (k + 1) % 2 ^ n = ap (λ i. bits_from n w x i) (next_negative k) ∙ bits_down n w x k in
    omega (arith, rest) ∙ doubled ((x % 2 ^ w) * 2 ^ (k + 1)) n ∙ ap (λ m. m % 2 ^ suc n) (twice (x % 2 ^ w) k)

pub from_pos : (n w x k : ℕ) (i : ℤ) → i ≡ pos k → x % 2 ^ w / 2 ^ k % 2 ^ n ≡ bits_from n w x i
from_pos n w x k i e = sym (bits_up n w x k) ∙ ap (λ j. bits_from n w x j) (sym e)

pub from_negative : (n w x : ℕ) (i : ℤ) → i <ℤ pos 0 → (x % 2 ^ w) * 2 ^ nat_abs i % 2 ^ n ≡ bits_from n w x i
from_negative n w x (pos k) h = absurd (grind (arith, h))
from_negative n w x (negsuc k) h = ap (λ j. (x % 2 ^ w) * 2 ^ j % 2 ^ n) (omega arith) ∙ sym (bits_down n w x k)

pub ruleset bits_from_place = (from_pos, from_negative)

-- past the number on either side
pub above_all : (n w x : ℕ) (i : ℤ) → w ≤ 128 → pos 128 ≤ℤ i → bits_from n w x i ≡ 0
above_all n w x (pos k) few h =
    bits_up n w x k ∙ ap (λ m. m % 2 ^ n) (bit_above w x k (grind (arith, h, few))) ∙ mod-eq_of_lt (pow_pos n)
above_all n w x (negsuc k) few h = absurd (grind (arith, h))

pub below_all : (n w x : ℕ) (i : ℤ) → n ≤ 128 → i ≤ℤ neg_ℤ (pos 128) → bits_from n w x i ≡ 0
below_all n w x (pos k) few h = absurd (grind (arith, h))
below_all n w x (negsuc k) few h = bits_down n w x k ∙ low_of_shifted (x % 2 ^ w) (k + 1) n (grind (arith, h, few))

-- a place that is far from all bounds
module _ (n w x : ℕ) (few_bits : n ≤ 128) (few : w ≤ 128) (r i : ℤ) (low : neg_ℤ (pos (2 ^ 63)) ≤ℤ r)
    (high : r <ℤ pos (2 ^ 63)) where
  far_down : (b : Bool) → int_lt i (pos 0) ≡ b → is_near i ≡ false → bits_from n w x (i -ℤ r) ≡ 0
  far_down true s far = below_all n w x (i -ℤ r) few_bits (grind (arith, s, far, low, high))
  far_down false s far = above_all n w x (i -ℤ r) few (grind (arith, s, far, low, high))

  far_up : (b : Bool) → int_lt i (pos 0) ≡ b → is_near i ≡ false → bits_from n w x (r -ℤ i) ≡ 0
  far_up true s far = above_all n w x (r -ℤ i) few (grind (arith, s, far, low, high))
  far_up false s far = below_all n w x (r -ℤ i) few_bits (grind (arith, s, far, low, high))

  pub far_place : (d : Decl) → d.right ≡ r → is_near i ≡ false → bits_from n w x (offset_of d i) ≡ 0
  far_place d e far = by (descends d)
    where
      by : (b : Bool) → bits_from n w x (if b then i -ℤ d.right else d.right -ℤ i) ≡ 0
      by true = ap (λ q. bits_from n w x (i -ℤ q)) e ∙ far_down (int_lt i (pos 0)) refl far
      by false = ap (λ q. bits_from n w x (q -ℤ i)) e ∙ far_up (int_lt i (pos 0)) refl far

shorter : (z w m : ℕ) → w ≤ m → z % 2 ^ m % 2 ^ w ≡ z % 2 ^ w
shorter z w m h = let e : m - w + w ≡ m = omega arith in ap (λ j. z % 2 ^ j % 2 ^ w) (sym e) ∙ mod-mod-pow z (m - w) w

lowest : (m w v x : ℕ) (i : ℤ) → w ≤ m → bits_from m v x i % 2 ^ w ≡ bits_from w v x i
lowest m w v x (pos k) h =
    ap (λ y. y % 2 ^ w) (bits_up m v x k) ∙ shorter (x % 2 ^ v / 2 ^ k) w m h ∙ sym (bits_up w v x k)
lowest m w v x (negsuc k) h =
    ap (λ y. y % 2 ^ w) (bits_down m v x k) ∙ shorter ((x % 2 ^ v) * 2 ^ (k + 1)) w m h ∙ sym (bits_down w v x k)

-- no bit is left to be filled
wide : (m w y : ℕ) (s : Bool) → w ≤ m → extended m w s y ≡ y % 2 ^ w
wide m w y s h = by (s && is_negative m y)
  where
    by : (b : Bool) → (if b then y + (2 ^ w - 2 ^ m) else y) % 2 ^ w ≡ y % 2 ^ w
    by true = let p : 2 ^ w ≤ 2 ^ m = pow_mono h in ap (λ z. z % 2 ^ w) (omega (arith, p))
    by false = refl

-- of a wider part 128 bits are enough
pub few_bits_suffice : (n w v x : ℕ) (s : Bool) (i : ℤ) → w ≤ 128
    → extended (min n 128) w s (bits_from (min n 128) v x i) ≡ extended n w s (bits_from n v x i)
few_bits_suffice n w v x s i few = by (nat_le n 128) refl
  where
    by : (b : Bool) → nat_le n 128 ≡ b → extended (min n 128) w s (bits_from (min n 128) v x i)
        ≡ extended n w s (bits_from n v x i)
    by true h = let e : min n 128 ≡ n = grind (arith, h) in ap (λ m. extended m w s (bits_from m v x i)) e
    by false h =
        let e : min n 128 ≡ 128 = grind (arith, h) in
        ap (λ m. extended m w s (bits_from m v x i)) e
        ∙ wide 128 w (bits_from 128 v x i) s few ∙ lowest 128 w v x i few
        ∙ sym (lowest n w v x i (grind (arith, h, few))) ∙ sym (wide n w (bits_from n v x i) s (grind (arith, h, few)))

-- how far two bounds lie apart
pub apart_same : (a b : ℤ) → is_below_zero a ≡ is_below_zero b
    → nat_abs (a -ℤ b) ≡ max (nat_abs a) (nat_abs b) - min (nat_abs a) (nat_abs b)
apart_same (pos a) (pos b) e = grind arith
apart_same (negsuc a) (negsuc b) e = grind arith
apart_same (pos a) (negsuc b) e = cc
apart_same (negsuc a) (pos b) e = cc

pub apart_other : (a b : ℤ) → is_below_zero a ≡ not (is_below_zero b) → nat_abs (a -ℤ b) ≡ nat_abs a + nat_abs b
apart_other (pos a) (pos b) e = cc
apart_other (negsuc a) (negsuc b) e = cc
apart_other (pos a) (negsuc b) e = grind arith
apart_other (negsuc a) (pos b) e = grind arith

pub ruleset apart = (apart_same, apart_other)

pub no_more : (n w x : ℕ) (d : Decl) (i : ℤ)
    → bits_from n w x (offset_of d (i +ℤ pos 0)) ≡ bits_from n w x (offset_of d i)
no_more n w x d i = ap (λ j. bits_from n w x (offset_of d j)) (+ℤ_idr i)

pub not_near : (i : ℤ) → None ≡ (if is_near i then Some i else None) → is_near i ≡ false
not_near i e = by (is_near i) e
  where
    by : (b : Bool) → None ≡ (if b then Some i else None) → b ≡ false
    by true e = cc
    by false e = refl

pub is_index : (i j : ℤ) → Some j ≡ (if is_near i then Some i else None) → j ≡ i
is_index i j e = by (is_near i) e
  where
    by : (b : Bool) → Some j ≡ (if b then Some i else None) → j ≡ i
    by true e = cc
    by false e = cc

-- through the bits of the index and of its place
pub through_bits : (n w x : ℕ) (d : Decl) (i j k : ℤ) (r : ℕ) → SFits w128 j → SFits w128 k → j ≡ i
    → k ≡ offset_of d (to_z w128 (of_z w128 j)) → r ≡ bits_from n w x (to_z w128 (of_z w128 k))
    → r ≡ bits_from n w x (offset_of d i)
through_bits n w x d i j k r fits fits_too e p q =
    q ∙ ap (λ h. bits_from n w x h) (to_z-of_z w128 k fits_too ∙ p
    ∙ ap (λ h. offset_of d h) (to_z-of_z w128 j fits ∙ e))
