-- Between functions: The bits of offsets in the order of their places, without the 0 below (manual, section 2.3).
use Rattle.std.specs.Prelude.{ℕ, Bool, ◌==◌, ◌||◌}
use Rattle.fv_bits.specs.Bits.{joined}
use Rattle.rv_table.specs.Fields.{field}

-- imm[12|11|10:5|4:1] of a branch
abbrev pub branch_bits : ℕ → ℕ
branch_bits w = joined 4 (joined 6 (joined 1 (field 31 31 w) (field 7 7 w)) (field 30 25 w)) (field 11 8 w)

-- imm[20|19:12|11|10:1] of a jump
abbrev pub jump_bits : ℕ → ℕ
jump_bits w = joined 10 (joined 1 (joined 8 (field 31 31 w) (field 19 12 w)) (field 20 20 w)) (field 30 21 w)

-- the bytes of a load or a store: one, two, or the four of a word (manual, section 2.6)
abbrev pub is_size : ℕ → Bool
is_size size = size == 1 || (size == 2 || size == 4)
