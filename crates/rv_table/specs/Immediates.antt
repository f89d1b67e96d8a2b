-- Meaning: The immediates of a word, bit by bit: manual, section 2.3, 'Immediate Encoding Variants'.
use Rattle.std.specs.Prelude.{ℕ, ◌+◌}
use Rattle.rv_table.specs.Fields.{field, moved, sign_extended}

-- imm[11:0] in bits 31:20
unfoldable pub i_immediate : ℕ → ℕ
i_immediate w = sign_extended 12 (field 31 20 w)

-- imm[11:5] in bits 31:25, imm[4:0] in 11:7
unfoldable pub s_immediate : ℕ → ℕ
s_immediate w = sign_extended 12 (moved 31 25 5 w + field 11 7 w)

-- imm[12|10:5] in bits 31:25, imm[4:1|11] in 11:7, and a 0 below
unfoldable pub b_immediate : ℕ → ℕ
b_immediate w = sign_extended 13 (moved 31 31 12 w + moved 7 7 11 w + moved 30 25 5 w + moved 11 8 1 w)

-- imm[31:12] in bits 31:12, and twelve zeros below
unfoldable pub u_immediate : ℕ → ℕ
u_immediate w = moved 31 12 12 w

-- imm[20|10:1|11|19:12] in bits 31:12, and a 0 below
unfoldable pub j_immediate : ℕ → ℕ
j_immediate w = sign_extended 21 (moved 31 31 20 w + moved 19 12 12 w + moved 20 20 11 w + moved 30 21 1 w)
