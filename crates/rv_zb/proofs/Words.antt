-- Sums with a word that is moved to the left.
use Rattle.std.proofs.Common.{◌≡◌, ℕ, ◌+◌, ◌*◌, ◌%◌, ◌^◌, arith}
use Rattle.rv_zb.specs.Effect.{shifted_sum}

-- what is cut off before a sum is cut off behind it as well
pub cut_before : (a b : ℕ) → (a % 2 ^ 32 + b) % 2 ^ 32 ≡ (a + b) % 2 ^ 32
cut_before a b = omega arith

pub shifted : (a by b : ℕ) → (a * 2 ^ by % 2 ^ 32 + b) % 2 ^ 32 ≡ shifted_sum by a b
shifted a by b = cut_before (a * 2 ^ by) b
