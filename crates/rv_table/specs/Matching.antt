-- Meaning: When a word matches a row, which rows an instruction set has, and their order and names.
use Rattle.std.specs.Prelude.{◌≡◌, ℕ, Bool, true, false, List, [], ◌∷◌, ◌++◌, Option, Some, None}
use Rattle.std.specs.List.{list_all}
use Rattle.rv_table.specs.declared.retire.Isa.{Isa}
use Rattle.rv_table.specs.declared.row.BaseRow.{BaseRow}
use Rattle.rv_table.specs.declared.row.BaseRow.TheVariants.{Lui, Auipc, Jal, Jalr, Branch, Load, Store, Immediate}
use Rattle.rv_table.specs.declared.row.BaseRow.TheVariants.{Register, Multiply}
use Rattle.rv_table.specs.declared.row.BranchRow.{BranchRow}
use Rattle.rv_table.specs.declared.row.BranchRow.TheVariants.{Beq, Bne, Blt, Bge, Bltu, Bgeu}
use Rattle.rv_table.specs.declared.row.LoadRow.{LoadRow}
use Rattle.rv_table.specs.declared.row.LoadRow.TheVariants.{Lb, Lh, Lw, Lbu, Lhu}
use Rattle.rv_table.specs.declared.row.StoreRow.{StoreRow}
use Rattle.rv_table.specs.declared.row.StoreRow.TheVariants.{Sb, Sh, Sw}
use Rattle.rv_table.specs.declared.row.ImmediateRow.{ImmediateRow}
use Rattle.rv_table.specs.declared.row.ImmediateRow.TheVariants.{Addi, Slti, Sltiu, Xori, Ori, Andi, Slli, Srli, Srai}
use Rattle.rv_table.specs.declared.row.RegisterRow.{RegisterRow}
use Rattle.rv_table.specs.declared.row.RegisterRow.TheVariants.{Add, Sub, Sll, Slt, Sltu, Xor, Srl, Sra, Or, And}
use Rattle.rv_table.specs.declared.row.MultiplyRow.{MultiplyRow}
use Rattle.rv_table.specs.declared.row.MultiplyRow.TheVariants.{Mul, Mulh, Mulhsu, Mulhu, Div, Divu, Rem, Remu}
use Rattle.rv_table.specs.declared.row.CompressedRow.{CompressedRow}
use Rattle.rv_table.specs.declared.row.CompressedRow.TheVariants.{
  CAddi4spn,
  CLw,
  CSw,
  CAddi,
  CJal,
  CLi,
  CAddi16sp,
  CLui,
  CSrli,
  CSrai,
  CAndi,
  CSub,
  CXor,
  COr,
  CAnd,
  CJ,
  CBeqz,
  CBnez,
  CSlli,
  CLwsp,
  CJr,
  CMv,
  CJalr,
  CAdd,
  CSwsp,
}
use Rattle.rv_table.specs.declared.row.RowId.{RowId}
use Rattle.rv_table.specs.declared.row.RowId.TheVariants.{Base, Compressed}
use Rattle.rv_table.specs.declared.pattern.Pattern.{Pattern}
use Rattle.rv_table.specs.Rows.{base_row}
use Rattle.rv_table.specs.declared.demand.Demand.{Demand}
use Rattle.rv_table.specs.declared.demand.Demand.TheVariants.{Is}
use Rattle.rv_table.specs.Compressed.{HalfRow, meets, compressed_row}

-- a part that the row fixes
abbrev pub asked : ℕ → ℕ → Option ℕ → List Demand
asked high low None = []
asked high low (Some n) = Is high low n ∷ []

-- the opcode, and funct3 and funct7 where they are fixed
abbrev pub pattern_demands : Pattern → List Demand
pattern_demands p = Is 6 0 p.opcode ∷ (asked 14 12 p.funct3 ++ asked 31 25 p.funct7)

-- 16 zeros stand above the half word
abbrev pub half_demands : HalfRow → List Demand
half_demands h = Is 31 16 0 ∷ Is 1 0 h.quadrant ∷ Is 15 13 h.funct3 ∷ h.condition

-- what a row asks
abbrev pub demands : RowId → List Demand
demands (Base row) = pattern_demands (base_row row).pattern
demands (Compressed row) = half_demands (compressed_row row)

-- the word meets each demand of the row
unfoldable pub matches : RowId → ℕ → Bool
matches row w = list_all (meets w) (demands row)

-- the instruction set has this row: RV32I is always there, and M and C are options
abbrev pub has : Isa → RowId → Bool
has isa (Base (Multiply row)) = isa.m
has isa (Base row) = true
has isa (Compressed row) = isa.c

-- the row is one of the instruction set, and the word matches it
pub record IsMatch (isa : Isa) (w : ℕ) (row : RowId) : Type 0 where
  pub held : has isa row ≡ true
  pub match : matches row w ≡ true

-- the row is one of M, of C
abbrev pub is_of_m : RowId → Bool
is_of_m (Base Lui) = false
is_of_m (Base Auipc) = false
is_of_m (Base Jal) = false
is_of_m (Base Jalr) = false
is_of_m (Base (Branch row)) = false
is_of_m (Base (Load row)) = false
is_of_m (Base (Store row)) = false
is_of_m (Base (Immediate row)) = false
is_of_m (Base (Register row)) = false
is_of_m (Base (Multiply row)) = true
is_of_m (Compressed row) = false

-- and of C
abbrev pub is_of_c : RowId → Bool
is_of_c (Base row) = false
is_of_c (Compressed row) = true

-- a row's name as the assembler writes it, with `_` for the dot
abbrev pub name : RowId → List ℕ
name (Base row) = (base_row row).name
name (Compressed row) = (compressed_row row).name

-- the 37 rows of RV32I, the 8 of M, the 25 of C
abbrev pub rows : List RowId
rows =
    Base Lui ∷ Base Auipc ∷ Base Jal ∷ Base Jalr
    ∷ Base (Branch Beq) ∷ Base (Branch Bne) ∷ Base (Branch Blt) ∷ Base (Branch Bge)
    ∷ Base (Branch Bltu) ∷ Base (Branch Bgeu)
    ∷ Base (Load Lb) ∷ Base (Load Lh) ∷ Base (Load Lw) ∷ Base (Load Lbu) ∷ Base (Load Lhu)
    ∷ Base (Store Sb) ∷ Base (Store Sh) ∷ Base (Store Sw)
    ∷ Base (Immediate Addi) ∷ Base (Immediate Slti) ∷ Base (Immediate Sltiu) ∷ Base (Immediate Xori)
    ∷ Base (Immediate Ori) ∷ Base (Immediate Andi) ∷ Base (Immediate Slli) ∷ Base (Immediate Srli)
    ∷ Base (Immediate Srai)
    ∷ Base (Register Add) ∷ Base (Register Sub) ∷ Base (Register Sll) ∷ Base (Register Slt)
    ∷ Base (Register Sltu) ∷ Base (Register Xor) ∷ Base (Register Srl) ∷ Base (Register Sra)
    ∷ Base (Register Or) ∷ Base (Register And)
    ∷ Base (Multiply Mul) ∷ Base (Multiply Mulh) ∷ Base (Multiply Mulhsu) ∷ Base (Multiply Mulhu)
    ∷ Base (Multiply Div) ∷ Base (Multiply Divu) ∷ Base (Multiply Rem) ∷ Base (Multiply Remu)
    ∷ Compressed CAddi4spn ∷ Compressed CLw ∷ Compressed CSw ∷ Compressed CAddi ∷ Compressed CJal
    ∷ Compressed CLi ∷ Compressed CAddi16sp ∷ Compressed CLui ∷ Compressed CSrli ∷ Compressed CSrai
    ∷ Compressed CAndi ∷ Compressed CSub ∷ Compressed CXor ∷ Compressed COr ∷ Compressed CAnd
    ∷ Compressed CJ ∷ Compressed CBeqz ∷ Compressed CBnez ∷ Compressed CSlli ∷ Compressed CLwsp
    ∷ Compressed CJr ∷ Compressed CMv ∷ Compressed CJalr ∷ Compressed CAdd ∷ Compressed CSwsp ∷ []

-- a row's place in that list
abbrev pub branch_number : BranchRow → ℕ
branch_number Beq = 4
branch_number Bne = 5
branch_number Blt = 6
branch_number Bge = 7
branch_number Bltu = 8
branch_number Bgeu = 9

abbrev pub load_number : LoadRow → ℕ
load_number Lb = 10
load_number Lh = 11
load_number Lw = 12
load_number Lbu = 13
load_number Lhu = 14

abbrev pub store_number : StoreRow → ℕ
store_number Sb = 15
store_number Sh = 16
store_number Sw = 17

abbrev pub immediate_number : ImmediateRow → ℕ
immediate_number Addi = 18
immediate_number Slti = 19
immediate_number Sltiu = 20
immediate_number Xori = 21
immediate_number Ori = 22
immediate_number Andi = 23
immediate_number Slli = 24
immediate_number Srli = 25
immediate_number Srai = 26

abbrev pub register_number : RegisterRow → ℕ
register_number Add = 27
register_number Sub = 28
register_number Sll = 29
register_number Slt = 30
register_number Sltu = 31
register_number Xor = 32
register_number Srl = 33
register_number Sra = 34
register_number Or = 35
register_number And = 36

abbrev pub multiply_number : MultiplyRow → ℕ
multiply_number Mul = 37
multiply_number Mulh = 38
multiply_number Mulhsu = 39
multiply_number Mulhu = 40
multiply_number Div = 41
multiply_number Divu = 42
multiply_number Rem = 43
multiply_number Remu = 44

abbrev pub compressed_number : CompressedRow → ℕ
compressed_number CAddi4spn = 45
compressed_number CLw = 46
compressed_number CSw = 47
compressed_number CAddi = 48
compressed_number CJal = 49
compressed_number CLi = 50
compressed_number CAddi16sp = 51
compressed_number CLui = 52
compressed_number CSrli = 53
compressed_number CSrai = 54
compressed_number CAndi = 55
compressed_number CSub = 56
compressed_number CXor = 57
compressed_number COr = 58
compressed_number CAnd = 59
compressed_number CJ = 60
compressed_number CBeqz = 61
compressed_number CBnez = 62
compressed_number CSlli = 63
compressed_number CLwsp = 64
compressed_number CJr = 65
compressed_number CMv = 66
compressed_number CJalr = 67
compressed_number CAdd = 68
compressed_number CSwsp = 69

abbrev pub base_number : BaseRow → ℕ
base_number Lui = 0
base_number Auipc = 1
base_number Jal = 2
base_number Jalr = 3
base_number (Branch row) = branch_number row
base_number (Load row) = load_number row
base_number (Store row) = store_number row
base_number (Immediate row) = immediate_number row
base_number (Register row) = register_number row
base_number (Multiply row) = multiply_number row

abbrev pub number : RowId → ℕ
number (Base row) = base_number row
number (Compressed row) = compressed_number row
