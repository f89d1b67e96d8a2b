-- Numbers one behind the other.
use Rattle.std.specs.Prelude.{◌≡◌, ℕ, zero, suc, ◌+◌, ◌-◌, ◌*◌, ◌%◌, ◌^◌, ◌<◌, ◌≤◌}
use Rattle.std.proofs.Common.{ap, sym, ◌∙◌, subst, arith}
use Rattle.std.proofs.Math.Pow.{pow_mono}
use Rattle.std.proofs.Math.Nat.{mul_comm}
use Rattle.std.proofs.lemmas.Nat.{pow-add, shl_whole, mul-add-lt}
use Rattle.vl_size.specs.Size.{copies}

pub whole_shift : (a j k : ℕ) → a < 2 ^ j → j + k ≤ 128 → a * 2 ^ k % 2 ^ 128 ≡ a * 2 ^ k
whole_shift a j k h few = shl_whole a j k 128 h few

pub appended_fits : (a n j k : ℕ) → a < 2 ^ j → n < 2 ^ k → a * 2 ^ k + n < 2 ^ (j + k)
appended_fits a n j k h l =
    let P : ℕ → Type 0 = λ m. a * 2 ^ k + n < m in
    subst P (mul_comm (2 ^ k) (2 ^ j) ∙ sym (pow-add 2 j k)) (mul-add-lt a (2 ^ k) n (2 ^ j) h l)

pub appended_fits_128 : (a n j k : ℕ) → a < 2 ^ j → n < 2 ^ k → j + k ≤ 128 → a * 2 ^ k + n < 2 ^ 128
appended_fits_128 a n j k h l few =
    let p : 2 ^ (j + k) ≤ 2 ^ 128 = pow_mono few in
    omega (arith, p, appended_fits a n j k h l)

pub appended_nothing : (a n k : ℕ) → a < 2 ^ 0 → a * 2 ^ k + n ≡ n
appended_nothing a n k h = let e : a ≡ 0 = omega arith in ap (λ m. m * 2 ^ k + n) e ∙ omega arith

pub copies_next : (c k n : ℕ) → 0 < c → copies c k n ≡ copies (c - 1) k n * 2 ^ k + n
copies_next zero k n h = absurd (omega arith)
copies_next (suc c) k n h =
    let e : suc c - 1 ≡ c = omega arith in
    let turned = mul_comm (2 ^ k) (copies c k n) in
    omega (arith, turned) ∙ ap (λ d. copies d k n * 2 ^ k + n) (sym e)

pub size_next : (c k : ℕ) → 0 < c → (c - 1) * k + k ≡ c * k
size_next zero k h = absurd (omega arith)
size_next (suc c) k h = let e : suc c - 1 ≡ c = omega arith in ap (λ d. d * k + k) e ∙ omega arith

pub ruleset appending = (whole_shift, appended_fits, appended_fits_128, appended_nothing, copies_next, size_next)
