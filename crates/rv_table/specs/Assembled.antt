-- Meaning: The word of a row with its registers and its immediate: manual, section 2.2 and 2.3, figures 2.2 to 2.4.
use Rattle.std.specs.Prelude.{
  ℕ,
  ◌+◌,
  ◌*◌,
  ◌^◌,
  ◌<◌,
  Bool,
  true,
  ◌&&◌,
  nat_lt,
  Option,
  Some,
  None,
  unwrap_or,
}
use Rattle.rv_table.specs.declared.pattern.Form.{Form}
use Rattle.rv_table.specs.declared.pattern.Form.TheVariants.{R, I, S, B, U, J}
use Rattle.rv_table.specs.declared.pattern.Pattern.{Pattern}
use Rattle.rv_table.specs.declared.assemble.Operands.{Operands}
use Rattle.rv_table.specs.Fields.{field, moved}

-- a word of the parts 6:0, 11:7, 14:12, 19:15, 24:20 and 31:25
abbrev pub of_parts : ℕ → ℕ → ℕ → ℕ → ℕ → ℕ → ℕ
of_parts opcode low funct3 rs1 middle high =
    opcode + low * 2 ^ 7 + funct3 * 2 ^ 12 + rs1 * 2 ^ 15 + middle * 2 ^ 20 + high * 2 ^ 25

-- a word of the parts 6:0, 11:7 and 31:12
abbrev pub of_upper : ℕ → ℕ → ℕ → ℕ
of_upper opcode rd upper = opcode + rd * 2 ^ 7 + upper * 2 ^ 12

-- funct3, 0 where the row has none
abbrev pub funct3_of : Pattern → ℕ
funct3_of p = unwrap_or p.funct3 0

-- bits 31:12 of a jump, by its immediate
abbrev pub jump_part : ℕ → ℕ
jump_part n = moved 20 20 19 n + moved 10 1 9 n + moved 11 11 8 n + field 19 12 n

-- a shift by an immediate fixes the bits 11:5 of the immediate as funct7
abbrev pub laid_out : Form → Pattern → Operands → ℕ
laid_out R p x = of_parts p.opcode x.rd (funct3_of p) x.rs1 x.rs2 (unwrap_or p.funct7 0)
laid_out I p x =
    of_parts p.opcode x.rd (funct3_of p) x.rs1 (field 4 0 x.immediate) (unwrap_or p.funct7 (field 11 5 x.immediate))
laid_out S p x = of_parts p.opcode (field 4 0 x.immediate) (funct3_of p) x.rs1 x.rs2 (field 11 5 x.immediate)
laid_out B p x =
    of_parts p.opcode (moved 4 1 1 x.immediate + field 11 11 x.immediate) (funct3_of p) x.rs1 x.rs2
    (moved 12 12 6 x.immediate + field 10 5 x.immediate)
laid_out U p x = of_upper p.opcode x.rd (field 31 12 x.immediate)
laid_out J p x = of_upper p.opcode x.rd (jump_part x.immediate)

-- the word by the row's form
unfoldable pub assembled : Pattern → Operands → ℕ
assembled p x = laid_out p.form p x

-- ---- what the parts of a pattern and its operands keep

-- a part that is fixed is below the limit
abbrev pub is_part_below : ℕ → Option ℕ → Bool
is_part_below limit None = true
is_part_below limit (Some n) = nat_lt n limit

-- opcode, funct3 and funct7 have 7, 3 and 7 bits
abbrev pub is_lawful : Pattern → Bool
is_lawful p = nat_lt p.opcode (2 ^ 7) && (is_part_below (2 ^ 3) p.funct3 && is_part_below (2 ^ 7) p.funct7)

-- registers are x0 to x31
pub record AreRegisters (x : Operands) : Type 0 where
  pub rd : x.rd < 32
  pub rs1 : x.rs1 < 32
  pub rs2 : x.rs2 < 32
