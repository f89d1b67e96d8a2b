-- Bits at a place.
use Rattle.std.specs.Prelude.{◌≡◌, refl, ℕ, zero, suc, ◌+◌, ◌-◌, ◌*◌, ◌/◌, ◌%◌, ◌^◌, ◌<◌, ◌≤◌, ℤ, pos, negsuc, ◌+ℤ◌}
use Rattle.std.specs.Prelude.{Bool, true, false, IsTrue, nat_le, if◌then◌else◌}
use Rattle.std.proofs.Common.{ap, sym, ◌∙◌, arith}
use Rattle.std.proofs.lemmas.Int.{ints}
use Rattle.std.proofs.lemmas.Bool.Decides.{nat_tests}
use Rattle.vl_size.specs.Place.{is_far}
use Rattle.fv_bits.proofs.Limits as b
use Rattle.vl_size.specs.Size.{bit_at, bits_from}

pub bits_from_0 : (n w x : ℕ) (i : ℤ) → n ≡ 0 → bits_from n w x i ≡ 0
bits_from_0 zero w x i h = refl
bits_from_0 (suc n) w x i h = absurd (omega (arith, h))

pub bits_from_next : (n w x : ℕ) (i : ℤ) → 0 < n
    → bits_from n w x i ≡ bit_at w x i + 2 * bits_from (n - 1) w x (i +ℤ pos 1)
bits_from_next zero w x i h = absurd (omega (arith, h))
bits_from_next (suc n) w x i h =
    let e : suc n - 1 ≡ n = omega arith in
    λ j. bit_at w x i + 2 * bits_from (sym e j) w x (i +ℤ pos 1)

pub twice_fits : (n : ℕ) → 0 < n → 2 ^ n ≡ 2 * 2 ^ (n - 1)
twice_fits zero h = absurd (omega (arith, h))
twice_fits (suc n) h =
    let e : suc n - 1 ≡ n = omega arith in
    omega arith ∙ ap (λ k. 2 * 2 ^ k) (sym e)

pub next_fits_128 : (n r : ℕ) → 0 < n → n ≤ 128 → r < 2 ^ (n - 1) → 2 * r + 1 < 2 ^ 128
next_fits_128 n r some few h =
    let p : 2 ^ n ≤ 2 ^ 128 = b.ones_le n few in
    omega (arith, p, h, twice_fits n some)

pub ruleset bits = (b.bits)

pub ruleset steps = (bits_from_0, bits_from_next, twice_fits)

past : (w x k : ℕ) → w ≤ k → bit_at w x (pos k) ≡ 0
past w x k h = by (nat_le w k) refl
  where
    by : (b : Bool) → nat_le w k ≡ b → (if b then 0 else x / 2 ^ k % 2) ≡ 0
    by true t = refl
    by false t = absurd (grind (arith, nat_tests))

far_up : (n w x k : ℕ) → w ≤ k → bits_from n w x (pos k) ≡ 0
far_up zero w x k h = refl
far_up (suc n) w x k h = omega (arith, past w x k h, far_up n w x (k + 1) (omega (arith, h)))

far_down : (n w x k : ℕ) → n ≤ k + 1 → bits_from n w x (negsuc k) ≡ 0
far_down zero w x k h = refl
far_down (suc zero) w x zero h = refl
far_down (suc (suc n)) w x zero h = absurd (omega (arith, h))
far_down (suc n) w x (suc k) h =
    let e : negsuc (suc k) +ℤ pos 1 ≡ negsuc k = omega (arith, ints) in
    let next : bits_from n w x (negsuc (suc k) +ℤ pos 1) ≡ 0 = ap (bits_from n w x) e
    ∙ far_down n w x k (omega (arith, h)) in
    omega (arith, next)

pub far_bits : (n w x : ℕ) (i : ℤ) → n ≤ 128 → w ≤ 128 → IsTrue (is_far i) → bits_from n w x i ≡ 0
far_bits n w x (pos k) count few h = far_up n w x k (grind (arith, nat_tests, ints))
far_bits n w x (negsuc k) count few h = far_down n w x k (grind (arith, nat_tests, ints))

pub far_bit : (w x : ℕ) (i : ℤ) → w ≤ 128 → IsTrue (is_far i) → bit_at w x i ≡ 0
far_bit w x (pos k) few h = past w x k (grind (arith, nat_tests, ints))
far_bit w x (negsuc k) few h = refl

pub ruleset far = (far_bits, far_bit)
