-- The list of rows has each row at its number.
use Rattle.std.proofs.Common.{◌≡◌, ℕ, ◌<◌, ◌≤◌, ◌↔◌, IsNone, List, [], ◌∷◌, length, Some, slice_get, refl, arith, suc}
use Rattle.std.proofs.Common.{zero}
use Rattle.std.proofs.lemmas.Grind.{common_steps}
use Rattle.rv_table.specs.declared.row.RowId.{RowId}
use Rattle.rv_table.specs.declared.row.RowId.TheVariants.{Base, Compressed}
use Rattle.rv_table.specs.declared.row.BaseRow.TheVariants.{Lui, Auipc, Jal, Jalr, Branch, Load, Store, Immediate}
use Rattle.rv_table.specs.declared.row.BaseRow.TheVariants.{Register, Multiply}
use Rattle.rv_table.specs.declared.row.BranchRow.TheVariants.{Beq, Bne, Blt, Bge, Bltu, Bgeu}
use Rattle.rv_table.specs.declared.row.LoadRow.TheVariants.{Lb, Lh, Lw, Lbu, Lhu}
use Rattle.rv_table.specs.declared.row.StoreRow.TheVariants.{Sb, Sh, Sw}
use Rattle.rv_table.specs.declared.row.ImmediateRow.TheVariants.{Addi, Slti, Sltiu, Xori, Ori, Andi, Slli, Srli, Srai}
use Rattle.rv_table.specs.declared.row.RegisterRow.TheVariants.{Add, Sub, Sll, Slt, Sltu, Xor, Srl, Sra, Or, And}
use Rattle.rv_table.specs.declared.row.MultiplyRow.TheVariants.{Mul, Mulh, Mulhsu, Mulhu, Div, Divu, Rem, Remu}
use Rattle.rv_table.specs.declared.row.CompressedRow.TheVariants.{CAddi4spn, CLw, CSw, CAddi, CJal, CLi, CAddi16sp}
use Rattle.rv_table.specs.declared.row.CompressedRow.TheVariants.{CLui, CSrli, CSrai, CAndi, CSub, CXor, COr, CAnd}
use Rattle.rv_table.specs.declared.row.CompressedRow.TheVariants.{CJ, CBeqz, CBnez, CSlli, CLwsp, CJr, CMv, CJalr}
use Rattle.rv_table.specs.declared.row.CompressedRow.TheVariants.{CAdd, CSwsp}
use Rattle.rv_table.specs.Matching.{rows, number}

pub row_at : (r : RowId) → slice_get rows (number r) ≡ Some r
row_at (Base Lui) = refl
row_at (Base Auipc) = refl
row_at (Base Jal) = refl
row_at (Base Jalr) = refl
row_at (Base (Branch Beq)) = refl
row_at (Base (Branch Bne)) = refl
row_at (Base (Branch Blt)) = refl
row_at (Base (Branch Bge)) = refl
row_at (Base (Branch Bltu)) = refl
row_at (Base (Branch Bgeu)) = refl
row_at (Base (Load Lb)) = refl
row_at (Base (Load Lh)) = refl
row_at (Base (Load Lw)) = refl
row_at (Base (Load Lbu)) = refl
row_at (Base (Load Lhu)) = refl
row_at (Base (Store Sb)) = refl
row_at (Base (Store Sh)) = refl
row_at (Base (Store Sw)) = refl
row_at (Base (Immediate Addi)) = refl
row_at (Base (Immediate Slti)) = refl
row_at (Base (Immediate Sltiu)) = refl
row_at (Base (Immediate Xori)) = refl
row_at (Base (Immediate Ori)) = refl
row_at (Base (Immediate Andi)) = refl
row_at (Base (Immediate Slli)) = refl
row_at (Base (Immediate Srli)) = refl
row_at (Base (Immediate Srai)) = refl
row_at (Base (Register Add)) = refl
row_at (Base (Register Sub)) = refl
row_at (Base (Register Sll)) = refl
row_at (Base (Register Slt)) = refl
row_at (Base (Register Sltu)) = refl
row_at (Base (Register Xor)) = refl
row_at (Base (Register Srl)) = refl
row_at (Base (Register Sra)) = refl
row_at (Base (Register Or)) = refl
row_at (Base (Register And)) = refl
row_at (Base (Multiply Mul)) = refl
row_at (Base (Multiply Mulh)) = refl
row_at (Base (Multiply Mulhsu)) = refl
row_at (Base (Multiply Mulhu)) = refl
row_at (Base (Multiply Div)) = refl
row_at (Base (Multiply Divu)) = refl
row_at (Base (Multiply Rem)) = refl
row_at (Base (Multiply Remu)) = refl
row_at (Compressed CAddi4spn) = refl
row_at (Compressed CLw) = refl
row_at (Compressed CSw) = refl
row_at (Compressed CAddi) = refl
row_at (Compressed CJal) = refl
row_at (Compressed CLi) = refl
row_at (Compressed CAddi16sp) = refl
row_at (Compressed CLui) = refl
row_at (Compressed CSrli) = refl
row_at (Compressed CSrai) = refl
row_at (Compressed CAndi) = refl
row_at (Compressed CSub) = refl
row_at (Compressed CXor) = refl
row_at (Compressed COr) = refl
row_at (Compressed CAnd) = refl
row_at (Compressed CJ) = refl
row_at (Compressed CBeqz) = refl
row_at (Compressed CBnez) = refl
row_at (Compressed CSlli) = refl
row_at (Compressed CLwsp) = refl
row_at (Compressed CJr) = refl
row_at (Compressed CMv) = refl
row_at (Compressed CJalr) = refl
row_at (Compressed CAdd) = refl
row_at (Compressed CSwsp) = refl

pub none_past : {X : Type 0} (xs : List X) (i : ℕ) → IsNone (slice_get xs i) → length xs ≤ i
none_past [] i none = omega arith
none_past (x ∷ xs) zero none = cc
none_past (x ∷ xs) (suc i) none = let h : length xs ≤ i = none_past xs i none in grind (arith, common_steps)

pub past_none : {X : Type 0} (xs : List X) (i : ℕ) → length xs ≤ i → IsNone (slice_get xs i)
past_none [] i past = refl
past_none (x ∷ xs) zero past = absurd (omega arith)
past_none (x ∷ xs) (suc i) past = past_none xs i (omega arith)

pub none_above : (i : ℕ) → IsNone (slice_get rows i) ↔ (69 < i)
none_above i = (λ none. let h : 70 ≤ i = none_past rows i none in omega arith, λ above. past_none rows i (omega arith))
