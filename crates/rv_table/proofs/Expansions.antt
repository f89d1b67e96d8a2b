-- A word that is laid out for a row matches it, and so does each expansion.
use Rattle.std.proofs.Common.{◌≡◌, ℕ, ◌+◌, ◌<◌, Bool, true, false, ◌&&◌, ◌==◌, nat_lt, Some, None, refl, arith, lit<}
use Rattle.std.proofs.lemmas.Grind.{common_steps}
use Rattle.std.specs.List.{list_all}
use Rattle.rv_table.specs.declared.row.BaseRow.{BaseRow}
use Rattle.rv_table.specs.declared.row.BaseRow.TheVariants.{Lui, Auipc, Jal, Jalr, Branch, Load, Store, Immediate}
use Rattle.rv_table.specs.declared.row.BaseRow.TheVariants.{Register, Multiply}
use Rattle.rv_table.specs.declared.row.BranchRow.TheVariants.{Beq, Bne, Blt, Bge, Bltu, Bgeu}
use Rattle.rv_table.specs.declared.row.LoadRow.TheVariants.{Lb, Lh, Lw, Lbu, Lhu}
use Rattle.rv_table.specs.declared.row.StoreRow.TheVariants.{Sb, Sh, Sw}
use Rattle.rv_table.specs.declared.row.ImmediateRow.TheVariants.{Addi, Slti, Sltiu, Xori, Ori, Andi, Slli, Srli, Srai}
use Rattle.rv_table.specs.declared.row.RegisterRow.TheVariants.{Add, Sub, Sll, Slt, Sltu, Xor, Srl, Sra, Or, And}
use Rattle.rv_table.specs.declared.row.MultiplyRow.TheVariants.{Mul, Mulh, Mulhsu, Mulhu, Div, Divu, Rem, Remu}
use Rattle.rv_table.specs.declared.row.CompressedRow.{CompressedRow}
use Rattle.rv_table.specs.declared.row.CompressedRow.TheVariants.{CAddi4spn, CLw, CSw, CAddi, CJal, CLi, CAddi16sp}
use Rattle.rv_table.specs.declared.row.CompressedRow.TheVariants.{CLui, CSrli, CSrai, CAndi, CSub, CXor, COr, CAnd}
use Rattle.rv_table.specs.declared.row.CompressedRow.TheVariants.{CJ, CBeqz, CBnez, CSlli, CLwsp, CJr, CMv, CJalr}
use Rattle.rv_table.specs.declared.row.CompressedRow.TheVariants.{CAdd, CSwsp}
use Rattle.rv_table.specs.declared.row.RowId.TheVariants.{Base}
use Rattle.rv_table.specs.declared.assemble.Operands.{Operands}
use Rattle.rv_table.specs.declared.pattern.Form.{Form}
use Rattle.rv_table.specs.declared.pattern.Form.TheVariants.{R, I, S, B, U, J}
use Rattle.rv_table.specs.Fields.{field, moved}
use Rattle.rv_table.specs.Rows.{base_row}
use Rattle.rv_table.specs.Compressed.{meets, compressed_row, operands, near_low, near_high, far, second}
use Rattle.rv_table.specs.Assembled.{AreRegisters, assembled, of_parts, of_upper, jump_part}
use Rattle.rv_table.specs.Matching.{matches, pattern_demands}
use Rattle.rv_table.specs.Effect.{expansion}

-- ---- the fields of a word of parts

opcode_of_parts : (o low f r m h : ℕ) → o < 128 → field 6 0 (of_parts o low f r m h) ≡ o
unfolding field
opcode_of_parts o low f r m h p = omega arith

funct3_of_parts : (o low f r m h : ℕ) → o < 128 → low < 32 → f < 8 → field 14 12 (of_parts o low f r m h) ≡ f
unfolding field
funct3_of_parts o low f r m h p q s = omega arith

funct7_of_parts : (o low f r m h : ℕ) → o < 128 → low < 32 → f < 8 → r < 32 → m < 32 → h < 128
    → field 31 25 (of_parts o low f r m h) ≡ h
unfolding field
funct7_of_parts o low f r m h p q s t u v = omega arith

opcode_of_upper : (o rd u : ℕ) → o < 128 → field 6 0 (of_upper o rd u) ≡ o
unfolding field
opcode_of_upper o rd u p = omega arith

of_eq : (a b : ℕ) → a ≡ b → (a == b) ≡ true
of_eq a b e = grind (arith, common_steps)

below : (a b : ℕ) → nat_lt a b ≡ true → a < b
below a b e = grind (arith, common_steps)

-- ---- each way in which a row fixes the parts

both_true : (a b : Bool) → a ≡ true → b ≡ true → (a && b) ≡ true
both_true true b e f = f
both_true false b e f = e

meets_opcode : (o w : ℕ) (form : Form) → field 6 0 w ≡ o
    → list_all (meets w) (pattern_demands (record { opcode = o; funct3 = None; funct7 = None; form = form })) ≡ true
meets_opcode o w form e = both_true _ true (of_eq _ _ e) refl

meets_funct3 : (o f w : ℕ) (form : Form) → field 6 0 w ≡ o → field 14 12 w ≡ f
    → list_all (meets w) (pattern_demands (record { opcode = o; funct3 = Some f; funct7 = None; form = form })) ≡ true
meets_funct3 o f w form e g = both_true _ _ (of_eq _ _ e) (both_true _ true (of_eq _ _ g) refl)

meets_funct7 : (o f s w : ℕ) (form : Form) → field 6 0 w ≡ o → field 14 12 w ≡ f → field 31 25 w ≡ s
    → list_all (meets w) (pattern_demands (record { opcode = o; funct3 = Some f; funct7 = Some s; form = form })) ≡ true
meets_funct7 o f s w form e g h =
    both_true _ _ (of_eq _ _ e) (both_true _ _ (of_eq _ _ g) (both_true _ true (of_eq _ _ h) refl))

parts_meet_funct3 : (o low f r m h : ℕ) (form : Form) → nat_lt o 128 ≡ true → low < 32 → nat_lt f 8 ≡ true
    → list_all (meets (of_parts o low f r m h))
    (pattern_demands (record { opcode = o; funct3 = Some f; funct7 = None; form = form })) ≡ true
parts_meet_funct3 o low f r m h form p q s =
    meets_funct3 o f (of_parts o low f r m h) form
    (opcode_of_parts o low f r m h (below _ _ p))
    (funct3_of_parts o low f r m h (below _ _ p) q (below _ _ s))

parts_meet_funct7 : (o low f r m h : ℕ) (form : Form) → nat_lt o 128 ≡ true → low < 32 → nat_lt f 8 ≡ true → r < 32
    → m < 32 → nat_lt h 128 ≡ true → list_all (meets (of_parts o low f r m h))
    (pattern_demands (record { opcode = o; funct3 = Some f; funct7 = Some h; form = form })) ≡ true
parts_meet_funct7 o low f r m h form p q s t u v =
    meets_funct7 o f h (of_parts o low f r m h) form
    (opcode_of_parts o low f r m h (below _ _ p))
    (funct3_of_parts o low f r m h (below _ _ p) q (below _ _ s))
    (funct7_of_parts o low f r m h (below _ _ p) q (below _ _ s) t u (below _ _ v))

upper_meets : (o rd u : ℕ) (form : Form) → nat_lt o 128 ≡ true
    → list_all (meets (of_upper o rd u)) (pattern_demands
    (record { opcode = o; funct3 = None; funct7 = None; form = form })) ≡ true
upper_meets o rd u form p = meets_opcode o (of_upper o rd u) form (opcode_of_upper o rd u (below _ _ p))

-- ---- parts of an immediate

five_bits : (n : ℕ) → field 4 0 n < 32
unfolding field
five_bits n = omega arith

branch_bits : (n : ℕ) → moved 4 1 1 n + field 11 11 n < 32
unfolding field
branch_bits n = omega arith

-- ---- the rows

pub assembled_matches : (row : BaseRow) (x : Operands) → AreRegisters x
    → matches (Base row) (assembled (base_row row).pattern x) ≡ true
unfolding matches assembled
assembled_matches Lui x regs = upper_meets 0x37 x.rd (field 31 12 x.immediate) U refl
assembled_matches Auipc x regs = upper_meets 0x17 x.rd (field 31 12 x.immediate) U refl
assembled_matches Jal x regs = upper_meets 0x6f x.rd (jump_part x.immediate) J refl
assembled_matches Jalr x regs =
    parts_meet_funct3 0x67 x.rd 0 x.rs1 (field 4 0 x.immediate) (field 11 5 x.immediate) I refl regs.rd refl
assembled_matches (Branch Beq) x regs = parts_meet_funct3 0x63
    (moved 4 1 1 x.immediate + field 11 11 x.immediate) 0 x.rs1 x.rs2
    (moved 12 12 6 x.immediate + field 10 5 x.immediate) B refl (branch_bits x.immediate) refl
assembled_matches (Branch Bne) x regs = parts_meet_funct3 0x63
    (moved 4 1 1 x.immediate + field 11 11 x.immediate) 1 x.rs1 x.rs2
    (moved 12 12 6 x.immediate + field 10 5 x.immediate) B refl (branch_bits x.immediate) refl
assembled_matches (Branch Blt) x regs = parts_meet_funct3 0x63
    (moved 4 1 1 x.immediate + field 11 11 x.immediate) 4 x.rs1 x.rs2
    (moved 12 12 6 x.immediate + field 10 5 x.immediate) B refl (branch_bits x.immediate) refl
assembled_matches (Branch Bge) x regs = parts_meet_funct3 0x63
    (moved 4 1 1 x.immediate + field 11 11 x.immediate) 5 x.rs1 x.rs2
    (moved 12 12 6 x.immediate + field 10 5 x.immediate) B refl (branch_bits x.immediate) refl
assembled_matches (Branch Bltu) x regs = parts_meet_funct3 0x63
    (moved 4 1 1 x.immediate + field 11 11 x.immediate) 6 x.rs1 x.rs2
    (moved 12 12 6 x.immediate + field 10 5 x.immediate) B refl (branch_bits x.immediate) refl
assembled_matches (Branch Bgeu) x regs = parts_meet_funct3 0x63
    (moved 4 1 1 x.immediate + field 11 11 x.immediate) 7 x.rs1 x.rs2
    (moved 12 12 6 x.immediate + field 10 5 x.immediate) B refl (branch_bits x.immediate) refl
assembled_matches (Load Lb) x regs =
    parts_meet_funct3 0x03 x.rd 0 x.rs1 (field 4 0 x.immediate) (field 11 5 x.immediate) I refl regs.rd refl
assembled_matches (Load Lh) x regs =
    parts_meet_funct3 0x03 x.rd 1 x.rs1 (field 4 0 x.immediate) (field 11 5 x.immediate) I refl regs.rd refl
assembled_matches (Load Lw) x regs =
    parts_meet_funct3 0x03 x.rd 2 x.rs1 (field 4 0 x.immediate) (field 11 5 x.immediate) I refl regs.rd refl
assembled_matches (Load Lbu) x regs =
    parts_meet_funct3 0x03 x.rd 4 x.rs1 (field 4 0 x.immediate) (field 11 5 x.immediate) I refl regs.rd refl
assembled_matches (Load Lhu) x regs =
    parts_meet_funct3 0x03 x.rd 5 x.rs1 (field 4 0 x.immediate) (field 11 5 x.immediate) I refl regs.rd refl
assembled_matches (Store Sb) x regs = parts_meet_funct3 0x23 (field 4 0 x.immediate) 0 x.rs1 x.rs2
    (field 11 5 x.immediate) S refl (five_bits x.immediate) refl
assembled_matches (Store Sh) x regs = parts_meet_funct3 0x23 (field 4 0 x.immediate) 1 x.rs1 x.rs2
    (field 11 5 x.immediate) S refl (five_bits x.immediate) refl
assembled_matches (Store Sw) x regs = parts_meet_funct3 0x23 (field 4 0 x.immediate) 2 x.rs1 x.rs2
    (field 11 5 x.immediate) S refl (five_bits x.immediate) refl
assembled_matches (Immediate Addi) x regs =
    parts_meet_funct3 0x13 x.rd 0 x.rs1 (field 4 0 x.immediate) (field 11 5 x.immediate) I refl regs.rd refl
assembled_matches (Immediate Slti) x regs =
    parts_meet_funct3 0x13 x.rd 2 x.rs1 (field 4 0 x.immediate) (field 11 5 x.immediate) I refl regs.rd refl
assembled_matches (Immediate Sltiu) x regs =
    parts_meet_funct3 0x13 x.rd 3 x.rs1 (field 4 0 x.immediate) (field 11 5 x.immediate) I refl regs.rd refl
assembled_matches (Immediate Xori) x regs =
    parts_meet_funct3 0x13 x.rd 4 x.rs1 (field 4 0 x.immediate) (field 11 5 x.immediate) I refl regs.rd refl
assembled_matches (Immediate Ori) x regs =
    parts_meet_funct3 0x13 x.rd 6 x.rs1 (field 4 0 x.immediate) (field 11 5 x.immediate) I refl regs.rd refl
assembled_matches (Immediate Andi) x regs =
    parts_meet_funct3 0x13 x.rd 7 x.rs1 (field 4 0 x.immediate) (field 11 5 x.immediate) I refl regs.rd refl
assembled_matches (Immediate Slli) x regs = parts_meet_funct7 0x13 x.rd 1 x.rs1
    (field 4 0 x.immediate) 0x00 I refl regs.rd refl regs.rs1 (five_bits x.immediate) refl
assembled_matches (Immediate Srli) x regs = parts_meet_funct7 0x13 x.rd 5 x.rs1
    (field 4 0 x.immediate) 0x00 I refl regs.rd refl regs.rs1 (five_bits x.immediate) refl
assembled_matches (Immediate Srai) x regs = parts_meet_funct7 0x13 x.rd 5 x.rs1
    (field 4 0 x.immediate) 0x20 I refl regs.rd refl regs.rs1 (five_bits x.immediate) refl
assembled_matches (Register Add) x regs =
    parts_meet_funct7 0x33 x.rd 0 x.rs1 x.rs2 0x00 R refl regs.rd refl regs.rs1 regs.rs2 refl
assembled_matches (Register Sub) x regs =
    parts_meet_funct7 0x33 x.rd 0 x.rs1 x.rs2 0x20 R refl regs.rd refl regs.rs1 regs.rs2 refl
assembled_matches (Register Sll) x regs =
    parts_meet_funct7 0x33 x.rd 1 x.rs1 x.rs2 0x00 R refl regs.rd refl regs.rs1 regs.rs2 refl
assembled_matches (Register Slt) x regs =
    parts_meet_funct7 0x33 x.rd 2 x.rs1 x.rs2 0x00 R refl regs.rd refl regs.rs1 regs.rs2 refl
assembled_matches (Register Sltu) x regs =
    parts_meet_funct7 0x33 x.rd 3 x.rs1 x.rs2 0x00 R refl regs.rd refl regs.rs1 regs.rs2 refl
assembled_matches (Register Xor) x regs =
    parts_meet_funct7 0x33 x.rd 4 x.rs1 x.rs2 0x00 R refl regs.rd refl regs.rs1 regs.rs2 refl
assembled_matches (Register Srl) x regs =
    parts_meet_funct7 0x33 x.rd 5 x.rs1 x.rs2 0x00 R refl regs.rd refl regs.rs1 regs.rs2 refl
assembled_matches (Register Sra) x regs =
    parts_meet_funct7 0x33 x.rd 5 x.rs1 x.rs2 0x20 R refl regs.rd refl regs.rs1 regs.rs2 refl
assembled_matches (Register Or) x regs =
    parts_meet_funct7 0x33 x.rd 6 x.rs1 x.rs2 0x00 R refl regs.rd refl regs.rs1 regs.rs2 refl
assembled_matches (Register And) x regs =
    parts_meet_funct7 0x33 x.rd 7 x.rs1 x.rs2 0x00 R refl regs.rd refl regs.rs1 regs.rs2 refl
assembled_matches (Multiply Mul) x regs =
    parts_meet_funct7 0x33 x.rd 0 x.rs1 x.rs2 0x01 R refl regs.rd refl regs.rs1 regs.rs2 refl
assembled_matches (Multiply Mulh) x regs =
    parts_meet_funct7 0x33 x.rd 1 x.rs1 x.rs2 0x01 R refl regs.rd refl regs.rs1 regs.rs2 refl
assembled_matches (Multiply Mulhsu) x regs =
    parts_meet_funct7 0x33 x.rd 2 x.rs1 x.rs2 0x01 R refl regs.rd refl regs.rs1 regs.rs2 refl
assembled_matches (Multiply Mulhu) x regs =
    parts_meet_funct7 0x33 x.rd 3 x.rs1 x.rs2 0x01 R refl regs.rd refl regs.rs1 regs.rs2 refl
assembled_matches (Multiply Div) x regs =
    parts_meet_funct7 0x33 x.rd 4 x.rs1 x.rs2 0x01 R refl regs.rd refl regs.rs1 regs.rs2 refl
assembled_matches (Multiply Divu) x regs =
    parts_meet_funct7 0x33 x.rd 5 x.rs1 x.rs2 0x01 R refl regs.rd refl regs.rs1 regs.rs2 refl
assembled_matches (Multiply Rem) x regs =
    parts_meet_funct7 0x33 x.rd 6 x.rs1 x.rs2 0x01 R refl regs.rd refl regs.rs1 regs.rs2 refl
assembled_matches (Multiply Remu) x regs =
    parts_meet_funct7 0x33 x.rd 7 x.rs1 x.rs2 0x01 R refl regs.rd refl regs.rs1 regs.rs2 refl

-- ---- the registers of a half word

near_low_fits : (h : ℕ) → near_low h < 32
unfolding near_low field
near_low_fits h = omega arith

near_high_fits : (h : ℕ) → near_high h < 32
unfolding near_high field
near_high_fits h = omega arith

far_fits : (h : ℕ) → far h < 32
unfolding far field
far_fits h = omega arith

second_fits : (h : ℕ) → second h < 32
unfolding second field
second_fits h = omega arith

registers : (row : CompressedRow) (h : ℕ) → AreRegisters (operands row h)
unfolding operands
registers CAddi4spn h = record { rd = near_low_fits h; rs1 = lit< tt; rs2 = lit< tt }
registers CLw h = record { rd = near_low_fits h; rs1 = near_high_fits h; rs2 = lit< tt }
registers CSw h = record { rd = lit< tt; rs1 = near_high_fits h; rs2 = near_low_fits h }
registers CAddi h = record { rd = far_fits h; rs1 = far_fits h; rs2 = lit< tt }
registers CJal h = record { rd = lit< tt; rs1 = lit< tt; rs2 = lit< tt }
registers CLi h = record { rd = far_fits h; rs1 = lit< tt; rs2 = lit< tt }
registers CAddi16sp h = record { rd = lit< tt; rs1 = lit< tt; rs2 = lit< tt }
registers CLui h = record { rd = far_fits h; rs1 = lit< tt; rs2 = lit< tt }
registers CSrli h = record { rd = near_high_fits h; rs1 = near_high_fits h; rs2 = lit< tt }
registers CSrai h = record { rd = near_high_fits h; rs1 = near_high_fits h; rs2 = lit< tt }
registers CAndi h = record { rd = near_high_fits h; rs1 = near_high_fits h; rs2 = lit< tt }
registers CSub h = record { rd = near_high_fits h; rs1 = near_high_fits h; rs2 = near_low_fits h }
registers CXor h = record { rd = near_high_fits h; rs1 = near_high_fits h; rs2 = near_low_fits h }
registers COr h = record { rd = near_high_fits h; rs1 = near_high_fits h; rs2 = near_low_fits h }
registers CAnd h = record { rd = near_high_fits h; rs1 = near_high_fits h; rs2 = near_low_fits h }
registers CJ h = record { rd = lit< tt; rs1 = lit< tt; rs2 = lit< tt }
registers CBeqz h = record { rd = lit< tt; rs1 = near_high_fits h; rs2 = lit< tt }
registers CBnez h = record { rd = lit< tt; rs1 = near_high_fits h; rs2 = lit< tt }
registers CSlli h = record { rd = far_fits h; rs1 = far_fits h; rs2 = lit< tt }
registers CLwsp h = record { rd = far_fits h; rs1 = lit< tt; rs2 = lit< tt }
registers CJr h = record { rd = lit< tt; rs1 = far_fits h; rs2 = lit< tt }
registers CMv h = record { rd = far_fits h; rs1 = lit< tt; rs2 = second_fits h }
registers CJalr h = record { rd = lit< tt; rs1 = far_fits h; rs2 = lit< tt }
registers CAdd h = record { rd = far_fits h; rs1 = far_fits h; rs2 = second_fits h }
registers CSwsp h = record { rd = lit< tt; rs1 = lit< tt; rs2 = second_fits h }

pub expansion_matches : (row : CompressedRow) (half : ℕ)
    → matches (Base (compressed_row row).base) (expansion row half) ≡ true
unfolding expansion
expansion_matches row half = assembled_matches (compressed_row row).base (operands row half) (registers row half)

pub ruleset words_match = (assembled_matches, expansion_matches)
