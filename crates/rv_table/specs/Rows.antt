-- Meaning: The rows of RV32I and M: manual, chapter 24, 'RV32/64G Instruction Set Listings', in this project's order.
use Rattle.std.specs.Prelude.{ℕ, List, Option, Some, None, codes}
use Rattle.rv_table.specs.declared.row.BaseRow.{BaseRow}
use Rattle.rv_table.specs.declared.row.BaseRow.TheVariants.{Lui, Auipc, Jal, Jalr, Branch, Load, Store, Immediate}
use Rattle.rv_table.specs.declared.row.BaseRow.TheVariants.{Register, Multiply}
use Rattle.rv_table.specs.declared.row.BranchRow.{BranchRow}
use Rattle.rv_table.specs.declared.row.BranchRow.TheVariants.{Beq, Bne, Blt, Bge, Bltu, Bgeu}
use Rattle.rv_table.specs.declared.row.LoadRow.{LoadRow}
use Rattle.rv_table.specs.declared.row.LoadRow.TheVariants.{Lb, Lh, Lw, Lbu, Lhu}
use Rattle.rv_table.specs.declared.row.StoreRow.{StoreRow}
use Rattle.rv_table.specs.declared.row.StoreRow.TheVariants.{Sb, Sh, Sw}
use Rattle.rv_table.specs.declared.row.ImmediateRow.{ImmediateRow}
use Rattle.rv_table.specs.declared.row.ImmediateRow.TheVariants.{Addi, Slti, Sltiu, Xori, Ori, Andi, Slli, Srli, Srai}
use Rattle.rv_table.specs.declared.row.RegisterRow.{RegisterRow}
use Rattle.rv_table.specs.declared.row.RegisterRow.TheVariants.{Add, Sub, Sll, Slt, Sltu, Xor, Srl, Sra, Or, And}
use Rattle.rv_table.specs.declared.row.MultiplyRow.{MultiplyRow}
use Rattle.rv_table.specs.declared.row.MultiplyRow.TheVariants.{Mul, Mulh, Mulhsu, Mulhu, Div, Divu, Rem, Remu}
use Rattle.rv_table.specs.declared.pattern.Form.{Form}
use Rattle.rv_table.specs.declared.pattern.Form.TheVariants.{R, I, S, B, U, J}
use Rattle.rv_table.specs.declared.pattern.Pattern.{Pattern}

-- a name, and what the word holds
pub record Row : Type 0 where
  pub name : List ℕ
  pub pattern : Pattern

-- a row by its parts
abbrev pub whole_row : List ℕ → ℕ → Form → Option ℕ → Option ℕ → Row
whole_row name opcode form funct3 funct7 =
    record { name = name; pattern = record { opcode = opcode; funct3 = funct3; funct7 = funct7; form = form } }

-- the opcode alone; with funct3; with funct3 and funct7
abbrev pub with_opcode : List ℕ → ℕ → Form → Row
with_opcode name opcode form = whole_row name opcode form None None

abbrev pub with_funct3 : List ℕ → ℕ → Form → ℕ → Row
with_funct3 name opcode form funct3 = whole_row name opcode form (Some funct3) None

abbrev pub with_funct7 : List ℕ → ℕ → Form → ℕ → ℕ → Row
with_funct7 name opcode form funct3 funct7 = whole_row name opcode form (Some funct3) (Some funct7)

-- section 2.5
abbrev pub branch_row : BranchRow → Row
branch_row Beq = with_funct3 (codes "beq") 0x63 B 0
branch_row Bne = with_funct3 (codes "bne") 0x63 B 1
branch_row Blt = with_funct3 (codes "blt") 0x63 B 4
branch_row Bge = with_funct3 (codes "bge") 0x63 B 5
branch_row Bltu = with_funct3 (codes "bltu") 0x63 B 6
branch_row Bgeu = with_funct3 (codes "bgeu") 0x63 B 7

-- section 2.6
abbrev pub load_row : LoadRow → Row
load_row Lb = with_funct3 (codes "lb") 0x03 I 0
load_row Lh = with_funct3 (codes "lh") 0x03 I 1
load_row Lw = with_funct3 (codes "lw") 0x03 I 2
load_row Lbu = with_funct3 (codes "lbu") 0x03 I 4
load_row Lhu = with_funct3 (codes "lhu") 0x03 I 5

-- section 2.6
abbrev pub store_row : StoreRow → Row
store_row Sb = with_funct3 (codes "sb") 0x23 S 0
store_row Sh = with_funct3 (codes "sh") 0x23 S 1
store_row Sw = with_funct3 (codes "sw") 0x23 S 2

-- section 2.4; a shift's amount stands in the low five bits of the immediate, and funct7 above them
abbrev pub immediate_row : ImmediateRow → Row
immediate_row Addi = with_funct3 (codes "addi") 0x13 I 0
immediate_row Slti = with_funct3 (codes "slti") 0x13 I 2
immediate_row Sltiu = with_funct3 (codes "sltiu") 0x13 I 3
immediate_row Xori = with_funct3 (codes "xori") 0x13 I 4
immediate_row Ori = with_funct3 (codes "ori") 0x13 I 6
immediate_row Andi = with_funct3 (codes "andi") 0x13 I 7
immediate_row Slli = with_funct7 (codes "slli") 0x13 I 1 0x00
immediate_row Srli = with_funct7 (codes "srli") 0x13 I 5 0x00
immediate_row Srai = with_funct7 (codes "srai") 0x13 I 5 0x20

-- section 2.4
abbrev pub register_row : RegisterRow → Row
register_row Add = with_funct7 (codes "add") 0x33 R 0 0x00
register_row Sub = with_funct7 (codes "sub") 0x33 R 0 0x20
register_row Sll = with_funct7 (codes "sll") 0x33 R 1 0x00
register_row Slt = with_funct7 (codes "slt") 0x33 R 2 0x00
register_row Sltu = with_funct7 (codes "sltu") 0x33 R 3 0x00
register_row Xor = with_funct7 (codes "xor") 0x33 R 4 0x00
register_row Srl = with_funct7 (codes "srl") 0x33 R 5 0x00
register_row Sra = with_funct7 (codes "sra") 0x33 R 5 0x20
register_row Or = with_funct7 (codes "or") 0x33 R 6 0x00
register_row And = with_funct7 (codes "and") 0x33 R 7 0x00

-- chapter 7
abbrev pub multiply_row : MultiplyRow → Row
multiply_row Mul = with_funct7 (codes "mul") 0x33 R 0 0x01
multiply_row Mulh = with_funct7 (codes "mulh") 0x33 R 1 0x01
multiply_row Mulhsu = with_funct7 (codes "mulhsu") 0x33 R 2 0x01
multiply_row Mulhu = with_funct7 (codes "mulhu") 0x33 R 3 0x01
multiply_row Div = with_funct7 (codes "div") 0x33 R 4 0x01
multiply_row Divu = with_funct7 (codes "divu") 0x33 R 5 0x01
multiply_row Rem = with_funct7 (codes "rem") 0x33 R 6 0x01
multiply_row Remu = with_funct7 (codes "remu") 0x33 R 7 0x01

-- the table of whole words
abbrev pub base_row : BaseRow → Row
base_row Lui = with_opcode (codes "lui") 0x37 U
base_row Auipc = with_opcode (codes "auipc") 0x17 U
base_row Jal = with_opcode (codes "jal") 0x6f J
base_row Jalr = with_funct3 (codes "jalr") 0x67 I 0
base_row (Branch row) = branch_row row
base_row (Load row) = load_row row
base_row (Store row) = store_row row
base_row (Immediate row) = immediate_row row
base_row (Register row) = register_row row
base_row (Multiply row) = multiply_row row
