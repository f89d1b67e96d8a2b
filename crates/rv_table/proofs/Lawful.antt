-- Each row's pattern keeps its parts within their bits.
use Rattle.std.proofs.Common.{◌≡◌, true, refl}
use Rattle.rv_table.specs.declared.row.BaseRow.{BaseRow}
use Rattle.rv_table.specs.declared.row.BaseRow.TheVariants.{Lui, Auipc, Jal, Jalr, Branch, Load, Store, Immediate}
use Rattle.rv_table.specs.declared.row.BaseRow.TheVariants.{Register, Multiply}
use Rattle.rv_table.specs.declared.row.BranchRow.TheVariants.{Beq, Bne, Blt, Bge, Bltu, Bgeu}
use Rattle.rv_table.specs.declared.row.LoadRow.TheVariants.{Lb, Lh, Lw, Lbu, Lhu}
use Rattle.rv_table.specs.declared.row.StoreRow.TheVariants.{Sb, Sh, Sw}
use Rattle.rv_table.specs.declared.row.ImmediateRow.TheVariants.{Addi, Slti, Sltiu, Xori, Ori, Andi, Slli, Srli, Srai}
use Rattle.rv_table.specs.declared.row.RegisterRow.TheVariants.{Add, Sub, Sll, Slt, Sltu, Xor, Srl, Sra, Or, And}
use Rattle.rv_table.specs.declared.row.MultiplyRow.TheVariants.{Mul, Mulh, Mulhsu, Mulhu, Div, Divu, Rem, Remu}
use Rattle.rv_table.specs.Rows.{base_row}
use Rattle.rv_table.specs.Assembled.{is_lawful}

pub lawful : (row : BaseRow) → is_lawful (base_row row).pattern ≡ true
lawful Lui = refl
lawful Auipc = refl
lawful Jal = refl
lawful Jalr = refl
lawful (Branch Beq) = refl
lawful (Branch Bne) = refl
lawful (Branch Blt) = refl
lawful (Branch Bge) = refl
lawful (Branch Bltu) = refl
lawful (Branch Bgeu) = refl
lawful (Load Lb) = refl
lawful (Load Lh) = refl
lawful (Load Lw) = refl
lawful (Load Lbu) = refl
lawful (Load Lhu) = refl
lawful (Store Sb) = refl
lawful (Store Sh) = refl
lawful (Store Sw) = refl
lawful (Immediate Addi) = refl
lawful (Immediate Slti) = refl
lawful (Immediate Sltiu) = refl
lawful (Immediate Xori) = refl
lawful (Immediate Ori) = refl
lawful (Immediate Andi) = refl
lawful (Immediate Slli) = refl
lawful (Immediate Srli) = refl
lawful (Immediate Srai) = refl
lawful (Register Add) = refl
lawful (Register Sub) = refl
lawful (Register Sll) = refl
lawful (Register Slt) = refl
lawful (Register Sltu) = refl
lawful (Register Xor) = refl
lawful (Register Srl) = refl
lawful (Register Sra) = refl
lawful (Register Or) = refl
lawful (Register And) = refl
lawful (Multiply Mul) = refl
lawful (Multiply Mulh) = refl
lawful (Multiply Mulhsu) = refl
lawful (Multiply Mulhu) = refl
lawful (Multiply Div) = refl
lawful (Multiply Divu) = refl
lawful (Multiply Rem) = refl
lawful (Multiply Remu) = refl
