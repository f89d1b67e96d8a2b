-- The upper half of a word.
use Rattle.std.specs.Prelude.{◌≡◌, ℕ, ◌/◌, ◌<◌, ◌^◌}
use Rattle.std.proofs.Common.{arith}
use Rattle.fv_bits.specs.Bits.{part}

pub upper_half : (w : ℕ) → w < 2 ^ 32 → part 16 16 w ≡ w / 2 ^ 16
upper_half w fits = omega (arith, fits)
