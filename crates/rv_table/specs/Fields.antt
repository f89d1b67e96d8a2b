-- Meaning: Words and their bits. A word is a number below 2 ^ 32. (The RISC-V Instruction Set Manual, Volume I:
-- Unprivileged ISA, document version 20191213, which all files here mean by 'manual'; section 2.2.)
use Rattle.std.specs.Prelude.{ℕ, ◌+◌, ◌-◌, ◌*◌, ◌^◌}
use Rattle.fv_bits.specs.Bits as bits

-- the bits high:low, as the manual writes them
unfoldable pub field : ℕ → ℕ → ℕ → ℕ
field high low w = bits.part low (high + 1 - low) w

-- the bits high:low, put to where bit `to` is their lowest
abbrev pub moved : ℕ → ℕ → ℕ → ℕ → ℕ
moved high low to w = field high low w * 2 ^ to

-- the word that has a number of so many bits at its low end, and copies of that number's highest bit above it
unfoldable pub sign_extended : ℕ → ℕ → ℕ
sign_extended width n = bits.sign_extended width 32 n
