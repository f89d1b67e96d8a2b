-- What each row asks can be asked of a word.
use Rattle.std.specs.Prelude.{◌≡◌, refl, ℕ, ◌+◌, ◌-◌, ◌^◌, ◌<◌, ◌≤◌, true}
use Rattle.std.specs.Prelude.{List, ◌∷◌, nat_le, nat_lt}
use Rattle.std.specs.List.{list_all}
use Rattle.std.proofs.Common.{arith}
use Rattle.std.proofs.lemmas.Grind.{common_steps}
use Rattle.wn_net.proofs.Laws.{additions}
use Rattle.rv_table.proofs.AssembledLemmas.{first_true, second_true}
use Rattle.rv_table.specs.declared.demand.Demand.{Demand}
use Rattle.rv_table.specs.Matching.{demands}
use Rattle.rv_table.specs.declared.row.BaseRow.TheVariants.{Lui, Auipc, Jal, Jalr, Branch, Load, Store, Immediate}
use Rattle.rv_table.specs.declared.row.BaseRow.TheVariants.{Register, Multiply}
use Rattle.rv_table.specs.declared.row.BranchRow.TheVariants.{Beq, Bne, Blt, Bge, Bltu, Bgeu}
use Rattle.rv_table.specs.declared.row.LoadRow.TheVariants.{Lb, Lh, Lw, Lbu, Lhu}
use Rattle.rv_table.specs.declared.row.StoreRow.TheVariants.{Sb, Sh, Sw}
use Rattle.rv_table.specs.declared.row.ImmediateRow.TheVariants.{Addi, Slti, Sltiu, Xori, Ori, Andi, Slli, Srli, Srai}
use Rattle.rv_table.specs.declared.row.RegisterRow.TheVariants.{Add, Sub, Sll, Slt, Sltu, Xor, Srl, Sra, Or, And}
use Rattle.rv_table.specs.declared.row.MultiplyRow.TheVariants.{Mul, Mulh, Mulhsu, Mulhu, Div, Divu, Rem, Remu}
use Rattle.rv_table.specs.declared.row.CompressedRow.TheVariants as c
use Rattle.rv_table.specs.declared.row.RowId.{RowId}
use Rattle.rv_table.specs.declared.row.RowId.TheVariants.{Base, Compressed}
use Rattle.rv_words.specs.Demands.{is_field, is_lawful}
use Rattle.rv_words.proofs.BitLemmas.{tests, pairs}

pub lawful : (row : RowId) → list_all is_lawful (demands row) ≡ true
lawful (Base Lui) = refl
lawful (Base Auipc) = refl
lawful (Base Jal) = refl
lawful (Base Jalr) = refl
lawful (Base (Branch Beq)) = refl
lawful (Base (Branch Bne)) = refl
lawful (Base (Branch Blt)) = refl
lawful (Base (Branch Bge)) = refl
lawful (Base (Branch Bltu)) = refl
lawful (Base (Branch Bgeu)) = refl
lawful (Base (Load Lb)) = refl
lawful (Base (Load Lh)) = refl
lawful (Base (Load Lw)) = refl
lawful (Base (Load Lbu)) = refl
lawful (Base (Load Lhu)) = refl
lawful (Base (Store Sb)) = refl
lawful (Base (Store Sh)) = refl
lawful (Base (Store Sw)) = refl
lawful (Base (Immediate Addi)) = refl
lawful (Base (Immediate Slti)) = refl
lawful (Base (Immediate Sltiu)) = refl
lawful (Base (Immediate Xori)) = refl
lawful (Base (Immediate Ori)) = refl
lawful (Base (Immediate Andi)) = refl
lawful (Base (Immediate Slli)) = refl
lawful (Base (Immediate Srli)) = refl
lawful (Base (Immediate Srai)) = refl
lawful (Base (Register Add)) = refl
lawful (Base (Register Sub)) = refl
lawful (Base (Register Sll)) = refl
lawful (Base (Register Slt)) = refl
lawful (Base (Register Sltu)) = refl
lawful (Base (Register Xor)) = refl
lawful (Base (Register Srl)) = refl
lawful (Base (Register Sra)) = refl
lawful (Base (Register Or)) = refl
lawful (Base (Register And)) = refl
lawful (Base (Multiply Mul)) = refl
lawful (Base (Multiply Mulh)) = refl
lawful (Base (Multiply Mulhsu)) = refl
lawful (Base (Multiply Mulhu)) = refl
lawful (Base (Multiply Div)) = refl
lawful (Base (Multiply Divu)) = refl
lawful (Base (Multiply Rem)) = refl
lawful (Base (Multiply Remu)) = refl
lawful (Compressed c.CAddi4spn) = refl
lawful (Compressed c.CLw) = refl
lawful (Compressed c.CSw) = refl
lawful (Compressed c.CAddi) = refl
lawful (Compressed c.CJal) = refl
lawful (Compressed c.CLi) = refl
lawful (Compressed c.CAddi16sp) = refl
lawful (Compressed c.CLui) = refl
lawful (Compressed c.CSrli) = refl
lawful (Compressed c.CSrai) = refl
lawful (Compressed c.CAndi) = refl
lawful (Compressed c.CSub) = refl
lawful (Compressed c.CXor) = refl
lawful (Compressed c.COr) = refl
lawful (Compressed c.CAnd) = refl
lawful (Compressed c.CJ) = refl
lawful (Compressed c.CBeqz) = refl
lawful (Compressed c.CBnez) = refl
lawful (Compressed c.CSlli) = refl
lawful (Compressed c.CLwsp) = refl
lawful (Compressed c.CJr) = refl
lawful (Compressed c.CMv) = refl
lawful (Compressed c.CJalr) = refl
lawful (Compressed c.CAdd) = refl
lawful (Compressed c.CSwsp) = refl

-- ---- what a lawful demand keeps

pub low_first : (high low number : ℕ) → is_field high low number ≡ true → low ≤ high
low_first high low number e =
    let t : nat_le low high ≡ true = first_true _ _ e in grind (arith, common_steps)

pub high_within : (high low number : ℕ) → is_field high low number ≡ true → high < 32
high_within high low number e =
    let t : nat_lt high 32 ≡ true = first_true _ _ (second_true (nat_le low high) _ e) in grind (arith, common_steps)

pub number_fits : (high low number : ℕ) → is_field high low number ≡ true → number < 2 ^ (high + 1 - low)
number_fits high low number e =
    let t : nat_lt number (2 ^ (high + 1 - low)) ≡ true =
    second_true (nat_lt high 32) _ (second_true (nat_le low high) _ e) in grind (arith, common_steps)

pub lawful_first : (d : Demand) (ds : List Demand) → list_all is_lawful (d ∷ ds) ≡ true → is_lawful d ≡ true
lawful_first d ds e = first_true _ _ e

pub lawful_rest : (d : Demand) (ds : List Demand) → list_all is_lawful (d ∷ ds) ≡ true
    → list_all is_lawful ds ≡ true
lawful_rest d ds e = second_true (is_lawful d) _ e

pub ruleset demanded = (
  additions,
  tests,
  pairs,
  low_first,
  high_within,
  number_fits,
  lawful_first,
  lawful_rest,
)
