-- Between functions: Division of signed words by their magnitudes (manual, section 7.2).
use Rattle.std.specs.Prelude.{ℕ, ◌==◌, if◌then◌else◌, bit_xor, unsigned_abs}
use Rattle.fv_bits.specs.Bits.{bit, is_negative}
use Rattle.rv_table.specs.Arithmetic.{signed, difference, quotient}

-- the quotient of the magnitudes, below 0 where exactly one of the words is
abbrev pub rounded_quotient : ℕ → ℕ → ℕ
rounded_quotient a b =
    let magnitude = quotient (unsigned_abs (signed a)) (unsigned_abs (signed b)) in
    if bit_xor (bit (is_negative 32 a)) (bit (is_negative 32 b)) == 1 then difference 0 magnitude else magnitude
