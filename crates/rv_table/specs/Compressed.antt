-- Meaning: The rows of extension C: manual, section 16.8, 'RVC Instruction Set Listings', with the immediates of
-- sections 16.3 to 16.5, in this project's order.
use Rattle.std.specs.Prelude.{ℕ, ◌+◌, Bool, not, ◌||◌, ◌==◌, List, [], ◌∷◌, codes}
use Rattle.rv_table.specs.declared.row.BaseRow.{BaseRow}
use Rattle.rv_table.specs.declared.row.BaseRow.TheVariants.{Lui, Jal, Jalr, Branch, Load, Store, Immediate, Register}
use Rattle.rv_table.specs.declared.row.BranchRow.TheVariants.{Beq, Bne}
use Rattle.rv_table.specs.declared.row.LoadRow.TheVariants.{Lw}
use Rattle.rv_table.specs.declared.row.StoreRow.TheVariants.{Sw}
use Rattle.rv_table.specs.declared.row.ImmediateRow.TheVariants.{Addi, Andi, Slli, Srli, Srai}
use Rattle.rv_table.specs.declared.row.RegisterRow.TheVariants.{Add, Sub, Xor, Or, And}
use Rattle.rv_table.specs.declared.row.CompressedRow.{CompressedRow}
use Rattle.rv_table.specs.declared.row.CompressedRow.TheVariants.{
  CAddi4spn,
  CLw,
  CSw,
  CAddi,
  CJal,
  CLi,
  CAddi16sp,
  CLui,
  CSrli,
  CSrai,
  CAndi,
  CSub,
  CXor,
  COr,
  CAnd,
  CJ,
  CBeqz,
  CBnez,
  CSlli,
  CLwsp,
  CJr,
  CMv,
  CJalr,
  CAdd,
  CSwsp,
}
use Rattle.rv_table.specs.declared.demand.Demand.{Demand}
use Rattle.rv_table.specs.declared.demand.Demand.TheVariants.{Is, Isnt, SomeOfSix}
use Rattle.rv_table.specs.declared.assemble.Operands.{Operands}
use Rattle.rv_table.specs.Fields.{field, moved, sign_extended}

-- the word does what is asked
abbrev pub meets : ℕ → Demand → Bool
meets w (Is high low n) = field high low w == n
meets w (Isnt high low n) = not (field high low w == n)
meets w SomeOfSix = not (field 12 12 w == 0) || not (field 6 2 w == 0)

-- a name; the bits 1:0 and 15:13; what else the row asks; and the row of its expansion
pub record HalfRow : Type 0 where
  pub name : List ℕ
  pub quadrant : ℕ
  pub funct3 : ℕ
  pub condition : List Demand
  pub base : BaseRow

-- a row by its parts
abbrev pub half_row : List ℕ → ℕ → ℕ → List Demand → BaseRow → HalfRow
half_row name quadrant funct3 condition base =
    record { name = name; quadrant = quadrant; funct3 = funct3; condition = condition; base = base }

-- a row that combines two of the registers x8 to x15, by its bits 6:5
abbrev pub combining : ℕ → List Demand
combining which = Is 11 10 3 ∷ Is 12 12 0 ∷ Is 6 5 which ∷ []

-- a row that jumps to a register, by its bit 12
abbrev pub jumping : ℕ → List Demand
jumping link = Is 12 12 link ∷ Is 6 2 0 ∷ Isnt 11 7 0 ∷ []

-- The table. That bits 12:5 of C.ADDI4SPN, and the six bits of C.ADDI16SP and C.LUI, aren't 0 says that their immediate
-- isn't; that bit 12 of a shift Is 0 is the rule of RV32C (section 16.5). C.JR and C.JALR have 0 where C.MV and C.ADD
-- have a register.
abbrev pub compressed_row : CompressedRow → HalfRow
compressed_row CAddi4spn = half_row (codes "c_addi4spn") 0 0 (Isnt 12 5 0 ∷ []) (Immediate Addi)
compressed_row CLw = half_row (codes "c_lw") 0 2 [] (Load Lw)
compressed_row CSw = half_row (codes "c_sw") 0 6 [] (Store Sw)
compressed_row CAddi = half_row (codes "c_addi") 1 0 [] (Immediate Addi)
compressed_row CJal = half_row (codes "c_jal") 1 1 [] Jal
compressed_row CLi = half_row (codes "c_li") 1 2 [] (Immediate Addi)
compressed_row CAddi16sp = half_row (codes "c_addi16sp") 1 3 (Is 11 7 2 ∷ SomeOfSix ∷ []) (Immediate Addi)
compressed_row CLui = half_row (codes "c_lui") 1 3 (Isnt 11 7 2 ∷ SomeOfSix ∷ []) Lui
compressed_row CSrli = half_row (codes "c_srli") 1 4 (Is 11 10 0 ∷ Is 12 12 0 ∷ []) (Immediate Srli)
compressed_row CSrai = half_row (codes "c_srai") 1 4 (Is 11 10 1 ∷ Is 12 12 0 ∷ []) (Immediate Srai)
compressed_row CAndi = half_row (codes "c_andi") 1 4 (Is 11 10 2 ∷ []) (Immediate Andi)
compressed_row CSub = half_row (codes "c_sub") 1 4 (combining 0) (Register Sub)
compressed_row CXor = half_row (codes "c_xor") 1 4 (combining 1) (Register Xor)
compressed_row COr = half_row (codes "c_or") 1 4 (combining 2) (Register Or)
compressed_row CAnd = half_row (codes "c_and") 1 4 (combining 3) (Register And)
compressed_row CJ = half_row (codes "c_j") 1 5 [] Jal
compressed_row CBeqz = half_row (codes "c_beqz") 1 6 [] (Branch Beq)
compressed_row CBnez = half_row (codes "c_bnez") 1 7 [] (Branch Bne)
compressed_row CSlli = half_row (codes "c_slli") 2 0 (Is 12 12 0 ∷ []) (Immediate Slli)
compressed_row CLwsp = half_row (codes "c_lwsp") 2 2 (Isnt 11 7 0 ∷ []) (Load Lw)
compressed_row CJr = half_row (codes "c_jr") 2 4 (jumping 0) Jalr
compressed_row CMv = half_row (codes "c_mv") 2 4 (Is 12 12 0 ∷ Isnt 6 2 0 ∷ []) (Register Add)
compressed_row CJalr = half_row (codes "c_jalr") 2 4 (jumping 1) Jalr
compressed_row CAdd = half_row (codes "c_add") 2 4 (Is 12 12 1 ∷ Isnt 6 2 0 ∷ []) (Register Add)
compressed_row CSwsp = half_row (codes "c_swsp") 2 6 [] (Store Sw)

-- ---- the registers and immediates of a half word

-- a register of three bits: x8 to x15 (table 16.2); rd' or rs2' in bits 4:2
unfoldable pub near_low : ℕ → ℕ
near_low h = 8 + field 4 2 h

-- rd' or rs1' in bits 9:7
unfoldable pub near_high : ℕ → ℕ
near_high h = 8 + field 9 7 h

-- the register of bits 11:7
unfoldable pub far : ℕ → ℕ
far h = field 11 7 h

-- the register, or the amount of a shift, of bits 6:2
unfoldable pub second : ℕ → ℕ
second h = field 6 2 h

-- imm[5] in bit 12, imm[4:0] in 6:2: a signed number of six bits
unfoldable pub six : ℕ → ℕ
six h = sign_extended 6 (moved 12 12 5 h + field 6 2 h)

-- nzuimm[5:4|9:6|2|3] in bits 12:5
unfoldable pub addi4spn_immediate : ℕ → ℕ
addi4spn_immediate h = moved 10 7 6 h + moved 12 11 4 h + moved 5 5 3 h + moved 6 6 2 h

-- C.LW, C.SW: uimm[5:3] in bits 12:10, uimm[2|6] in 6:5
unfoldable pub word_offset : ℕ → ℕ
word_offset h = moved 5 5 6 h + moved 12 10 3 h + moved 6 6 2 h

-- C.J, C.JAL: imm[11|4|9:8|10|6|7|3:1|5] in bits 12:2
unfoldable pub jump_offset : ℕ → ℕ
jump_offset h =
    sign_extended 12 ((moved 12 12 11 h + moved 8 8 10 h + moved 10 9 8 h + moved 6 6 7 h)
    + (moved 7 7 6 h + moved 2 2 5 h + moved 11 11 4 h + moved 5 3 1 h))

-- nzimm[9] in bit 12, nzimm[4|6|8:7|5] in 6:2
unfoldable pub addi16sp_immediate : ℕ → ℕ
addi16sp_immediate h =
    sign_extended 10 (moved 12 12 9 h + moved 4 3 7 h + moved 5 5 6 h + moved 2 2 5 h + moved 6 6 4 h)

-- nzimm[17] in bit 12, nzimm[16:12] in 6:2
unfoldable pub lui_immediate : ℕ → ℕ
lui_immediate h = sign_extended 18 (moved 12 12 17 h + moved 6 2 12 h)

-- C.BEQZ, C.BNEZ: imm[8|4:3] in bits 12:10, imm[7:6|2:1|5] in 6:2
unfoldable pub branch_offset : ℕ → ℕ
branch_offset h = sign_extended 9 (moved 12 12 8 h + moved 6 5 6 h + moved 2 2 5 h + moved 11 10 3 h + moved 4 3 1 h)

-- uimm[5] in bit 12, uimm[4:2|7:6] in 6:2
unfoldable pub lwsp_offset : ℕ → ℕ
lwsp_offset h = moved 3 2 6 h + moved 12 12 5 h + moved 6 4 2 h

-- uimm[5:2|7:6] in bits 12:7
unfoldable pub swsp_offset : ℕ → ℕ
swsp_offset h = moved 8 7 6 h + moved 12 9 2 h

-- ---- what the expansion's word holds: rd, rs1, rs2 (0 where its form has none), immediate

-- operands by their parts
abbrev pub holding : ℕ → ℕ → ℕ → ℕ → Operands
holding rd rs1 rs2 immediate = record { rd = rd; rs1 = rs1; rs2 = rs2; immediate = immediate }

-- the expansions of sections 16.3 to 16.5
unfoldable pub operands : CompressedRow → ℕ → Operands
operands CAddi4spn h = holding (near_low h) 2 0 (addi4spn_immediate h)
operands CLw h = holding (near_low h) (near_high h) 0 (word_offset h)
operands CSw h = holding 0 (near_high h) (near_low h) (word_offset h)
operands CAddi h = holding (far h) (far h) 0 (six h)
operands CJal h = holding 1 0 0 (jump_offset h)
operands CLi h = holding (far h) 0 0 (six h)
operands CAddi16sp h = holding 2 2 0 (addi16sp_immediate h)
operands CLui h = holding (far h) 0 0 (lui_immediate h)
operands CSrli h = holding (near_high h) (near_high h) 0 (second h)
operands CSrai h = holding (near_high h) (near_high h) 0 (second h)
operands CAndi h = holding (near_high h) (near_high h) 0 (six h)
operands CSub h = holding (near_high h) (near_high h) (near_low h) 0
operands CXor h = holding (near_high h) (near_high h) (near_low h) 0
operands COr h = holding (near_high h) (near_high h) (near_low h) 0
operands CAnd h = holding (near_high h) (near_high h) (near_low h) 0
operands CJ h = holding 0 0 0 (jump_offset h)
operands CBeqz h = holding 0 (near_high h) 0 (branch_offset h)
operands CBnez h = holding 0 (near_high h) 0 (branch_offset h)
operands CSlli h = holding (far h) (far h) 0 (second h)
operands CLwsp h = holding (far h) 2 0 (lwsp_offset h)
operands CJr h = holding 0 (far h) 0 0
operands CMv h = holding (far h) 0 (second h) 0
operands CJalr h = holding 1 (far h) 0 0
operands CAdd h = holding (far h) (far h) (second h) 0
operands CSwsp h = holding 0 2 (second h) (swsp_offset h)
