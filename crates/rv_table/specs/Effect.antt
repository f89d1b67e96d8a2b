-- Meaning: What an instruction does: manual, chapters 2 (RV32I), 7 (M) and 16 (C), on whole numbers.
use Rattle.std.specs.Prelude.{
  ◌≡◌,
  ℕ,
  ◌-◌,
  ◌*◌,
  ◌/◌,
  ◌%◌,
  ◌^◌,
  Bool,
  true,
  false,
  not,
  ◌&&◌,
  ◌==◌,
  nat_lt,
}
use Rattle.std.specs.Prelude.{if◌then◌else◌, pos, ◌*ℤ◌, bit_and, bit_or, bit_xor}
use Rattle.rv_table.specs.declared.retire.Retire.{Retire}
use Rattle.rv_table.specs.declared.retire.Opts.{Opts}
use Rattle.rv_table.specs.declared.retire.Effect.{Effect}
use Rattle.rv_table.specs.declared.step.Step.{Step}
use Rattle.rv_table.specs.declared.pattern.Form.{Form}
use Rattle.rv_table.specs.declared.pattern.Form.TheVariants.{R, S, B, U, J}
use Rattle.rv_table.specs.declared.row.BaseRow.{BaseRow}
use Rattle.rv_table.specs.declared.row.BaseRow.TheVariants.{Lui, Auipc, Jal, Jalr, Branch, Load, Store, Immediate}
use Rattle.rv_table.specs.declared.row.BaseRow.TheVariants.{Register, Multiply}
use Rattle.rv_table.specs.declared.row.BranchRow.{BranchRow}
use Rattle.rv_table.specs.declared.row.BranchRow.TheVariants.{Beq, Bne, Blt, Bge, Bltu, Bgeu}
use Rattle.rv_table.specs.declared.row.LoadRow.{LoadRow}
use Rattle.rv_table.specs.declared.row.LoadRow.TheVariants.{Lb, Lh, Lw, Lbu, Lhu}
use Rattle.rv_table.specs.declared.row.StoreRow.{StoreRow}
use Rattle.rv_table.specs.declared.row.StoreRow.TheVariants.{Sb, Sh, Sw}
use Rattle.rv_table.specs.declared.row.ImmediateRow.{ImmediateRow}
use Rattle.rv_table.specs.declared.row.ImmediateRow.TheVariants.{Addi, Slti, Sltiu, Xori, Ori, Andi, Slli, Srli, Srai}
use Rattle.rv_table.specs.declared.row.RegisterRow.{RegisterRow}
use Rattle.rv_table.specs.declared.row.RegisterRow.TheVariants.{Add, Sub, Sll, Slt, Sltu, Xor, Srl, Sra, Or, And}
use Rattle.rv_table.specs.declared.row.MultiplyRow.{MultiplyRow}
use Rattle.rv_table.specs.declared.row.MultiplyRow.TheVariants.{Mul, Mulh, Mulhsu, Mulhu, Div, Divu, Rem, Remu}
use Rattle.rv_table.specs.declared.row.CompressedRow.{CompressedRow}
use Rattle.rv_table.specs.declared.row.RowId.{RowId}
use Rattle.rv_table.specs.declared.row.RowId.TheVariants.{Base, Compressed}
use Rattle.fv_bits.specs.Bits.{bit}
use Rattle.rv_table.specs.Fields.{field, sign_extended}
use Rattle.rv_table.specs.Immediates.{i_immediate, s_immediate, b_immediate, u_immediate, j_immediate}
use Rattle.rv_table.specs.Rows.{base_row}
use Rattle.rv_table.specs.Matching.{matches}
use Rattle.rv_table.specs.Compressed.{compressed_row, operands}
use Rattle.rv_table.specs.Assembled.{assembled}
use Rattle.rv_table.specs.Arithmetic.{
  signed,
  sum,
  difference,
  product,
  is_less_signed,
  shifted_left,
  shifted_right,
  shifted_right_signed,
  upper_half,
  quotient_signed,
  quotient,
  remainder_signed,
  remainder,
}

-- ---- what an instruction reads (manual, section 2.2)

abbrev pub reads_first : Form → Bool
reads_first U = false
reads_first J = false
reads_first form = true

-- the form has rs2
abbrev pub reads_second : Form → Bool
reads_second R = true
reads_second S = true
reads_second B = true
reads_second form = false

-- the form has rd
abbrev pub writes : Form → Bool
writes S = false
writes B = false
writes form = true

-- a number where the form has it, and else 0
abbrev pub where_there : Bool → ℕ → ℕ
where_there there n = if there then n else 0

-- x0 is 0, whatever stands beside it
abbrev pub unless_x0 : ℕ → ℕ → ℕ
unless_x0 address value = if address == 0 then 0 else value

-- the word of an instruction with its length in bytes, and what it finds
unfoldable pub step : Form → ℕ → ℕ → Retire → Opts → Step
step form w length retire opts =
    let rs1_addr = where_there (reads_first form) (field 19 15 w) in
    let rs2_addr = where_there (reads_second form) (field 24 20 w) in
    record {
      word = w;
      length = length;
      rs1_addr = rs1_addr;
      rs2_addr = rs2_addr;
      rd_addr = where_there (writes form) (field 11 7 w);
      s1 = unless_x0 rs1_addr retire.rs1_rdata;
      s2 = unless_x0 rs2_addr retire.rs2_rdata;
      pc = retire.pc_rdata;
      mem_rdata = retire.mem_rdata;
      opts = opts;
    }

-- ---- the kinds of effects

-- the address of the instruction behind this one
abbrev pub next : Step → ℕ
next x = sum x.pc x.length

-- rd gets the value; the next instruction follows
unfoldable pub gives : Step → ℕ → Effect
gives x value = record {
  rs1_addr = x.rs1_addr;
  rs2_addr = x.rs2_addr;
  rd_addr = x.rd_addr;
  rd_wdata = unless_x0 x.rd_addr value;
  pc_wdata = next x;
  mem_addr = 0;
  rmask = 0;
  wmask = 0;
  wdata = 0;
  trap = false;
}

-- a jump to what is no multiple of 4 traps, unless there are compressed instructions (section 2.5)
abbrev pub is_misaligned_target : Step → ℕ → Bool
is_misaligned_target x target = not x.opts.c && not (target % 4 == 0)

-- the same effect with this target
abbrev pub goes_to : Step → ℕ → Effect → Effect
goes_to x target e = record e { pc_wdata = target; trap = is_misaligned_target x target }

-- rd gets the next address; the target follows
unfoldable pub jumps : Step → ℕ → Effect
jumps x target = goes_to x target (gives x (next x))

-- a taken branch goes to pc plus its offset
unfoldable pub branches : Step → Bool → Effect
branches x taken = if taken then goes_to x (sum x.pc (b_immediate x.word)) (gives x 0) else gives x 0

-- With aligned memory a word is reached by its own address, its bytes are at their places in it, and an address that is
-- no multiple of the size traps; without, the bytes begin at the address.
abbrev pub word_address : Step → ℕ → ℕ
word_address x address = if x.opts.aligned then address - address % 4 else address

-- where in that word the bytes begin
abbrev pub place_in_word : Step → ℕ → ℕ
place_in_word x address = if x.opts.aligned then address % 4 else 0

-- an aligned memory is reached at no multiple of the size
abbrev pub is_misaligned : Step → ℕ → ℕ → Bool
is_misaligned x size address = x.opts.aligned && not (address % size == 0)

-- one bit for each byte, cut to the four bytes of a word
abbrev pub mask_at : ℕ → ℕ → ℕ
mask_at size place = (2 ^ size - 1) * 2 ^ place % 2 ^ 4

-- so many bytes of the word, from the place on
abbrev pub bytes_from : ℕ → ℕ → ℕ → ℕ
bytes_from size place w = w / 2 ^ (8 * place) % 2 ^ (8 * size)

-- the low bytes of the word, put to the place
abbrev pub bytes_to : ℕ → ℕ → ℕ → ℕ
bytes_to size place w = w % 2 ^ (8 * size) * 2 ^ (8 * place) % 2 ^ 32

-- the bytes of a load, as a number
abbrev pub loaded : Step → ℕ → ℕ
loaded x size = bytes_from size (place_in_word x (sum x.s1 (i_immediate x.word))) x.mem_rdata

-- rd gets the value; the bytes at s1 plus the immediate are read
unfoldable pub loads : Step → ℕ → ℕ → Effect
loads x size value =
    let address = sum x.s1 (i_immediate x.word) in
    record (gives x value) {
      mem_addr = word_address x address;
      rmask = mask_at size (place_in_word x address);
      trap = is_misaligned x size address;
    }

-- the low bytes of s2 are written to s1 plus the immediate
unfoldable pub stores : Step → ℕ → Effect
stores x size =
    let address = sum x.s1 (s_immediate x.word) in
    let place = place_in_word x address in
    record (gives x 0) {
      mem_addr = word_address x address;
      wmask = mask_at size place;
      wdata = bytes_to size place x.s2;
      trap = is_misaligned x size address;
    }

-- ---- the rows

-- section 2.5
abbrev pub is_taken : BranchRow → ℕ → ℕ → Bool
is_taken Beq a b = a == b
is_taken Bne a b = not (a == b)
is_taken Blt a b = is_less_signed a b
is_taken Bge a b = not (is_less_signed a b)
is_taken Bltu a b = nat_lt a b
is_taken Bgeu a b = not (nat_lt a b)

-- section 2.6: how many bytes, and how they fill a register
abbrev pub load_size : LoadRow → ℕ
load_size Lb = 1
load_size Lh = 2
load_size Lw = 4
load_size Lbu = 1
load_size Lhu = 2

abbrev pub extended : LoadRow → ℕ → ℕ
extended Lb n = sign_extended 8 n
extended Lh n = sign_extended 16 n
extended row n = n

-- how many bytes
abbrev pub store_size : StoreRow → ℕ
store_size Sb = 1
store_size Sh = 2
store_size Sw = 4

-- section 2.4; b is the immediate, whose low five bits are the amount of a shift
abbrev pub immediate_result : ImmediateRow → ℕ → ℕ → ℕ
immediate_result Addi a b = sum a b
immediate_result Slti a b = bit (is_less_signed a b)
immediate_result Sltiu a b = bit (nat_lt a b)
immediate_result Xori a b = bit_xor a b
immediate_result Ori a b = bit_or a b
immediate_result Andi a b = bit_and a b
immediate_result Slli a b = shifted_left a b
immediate_result Srli a b = shifted_right a b
immediate_result Srai a b = shifted_right_signed a b

-- section 2.4
abbrev pub register_result : RegisterRow → ℕ → ℕ → ℕ
register_result Add a b = sum a b
register_result Sub a b = difference a b
register_result Sll a b = shifted_left a b
register_result Slt a b = bit (is_less_signed a b)
register_result Sltu a b = bit (nat_lt a b)
register_result Xor a b = bit_xor a b
register_result Srl a b = shifted_right a b
register_result Sra a b = shifted_right_signed a b
register_result Or a b = bit_or a b
register_result And a b = bit_and a b

-- chapter 7
abbrev pub multiply_result : MultiplyRow → ℕ → ℕ → ℕ
multiply_result Mul a b = product a b
multiply_result Mulh a b = upper_half (signed a *ℤ signed b)
multiply_result Mulhsu a b = upper_half (signed a *ℤ pos b)
multiply_result Mulhu a b = upper_half (pos a *ℤ pos b)
multiply_result Div a b = quotient_signed a b
multiply_result Divu a b = quotient a b
multiply_result Rem a b = remainder_signed a b
multiply_result Remu a b = remainder a b

-- Rule of this project: results that stand for those of M where a check replaces them
abbrev pub alternative_result : MultiplyRow → ℕ → ℕ → ℕ
alternative_result Mul a b = bit_xor (sum a b) 0x5876063e
alternative_result Mulh a b = bit_xor (sum a b) 0xf6583fb7
alternative_result Mulhsu a b = bit_xor (difference a b) 0xecfbe137
alternative_result Mulhu a b = bit_xor (sum a b) 0x949ce5e8
alternative_result Div a b = bit_xor (difference a b) 0x7f8529ec
alternative_result Divu a b = bit_xor (difference a b) 0x10e8fd70
alternative_result Rem a b = bit_xor (difference a b) 0x8da68fa5
alternative_result Remu a b = bit_xor (difference a b) 0x3138d0e1

-- row by row: what rd gets, or where it goes
unfoldable pub base_effect : BaseRow → Step → Effect
base_effect Lui x = gives x (u_immediate x.word)
base_effect Auipc x = gives x (sum x.pc (u_immediate x.word))
base_effect Jal x = jumps x (sum x.pc (j_immediate x.word))
base_effect Jalr x = let target = sum x.s1 (i_immediate x.word) in jumps x (target - target % 2)
base_effect (Branch row) x = branches x (is_taken row x.s1 x.s2)
base_effect (Load row) x = loads x (load_size row) (extended row (loaded x (load_size row)))
base_effect (Store row) x = stores x (store_size row)
base_effect (Immediate row) x = gives x (immediate_result row x.s1 (i_immediate x.word))
base_effect (Register row) x = gives x (register_result row x.s1 x.s2)
base_effect (Multiply row) x =
    gives x (if x.opts.altops then alternative_result row x.s1 x.s2 else multiply_result row x.s1 x.s2)

-- the effect of a word of the row, which takes so many bytes
abbrev pub word_effect : BaseRow → ℕ → ℕ → Retire → Opts → Effect
word_effect row w length retire opts = base_effect row (step (base_row row).pattern.form w length retire opts)

-- the word that a half word of the row stands for (chapter 16)
unfoldable pub expansion : CompressedRow → ℕ → ℕ
expansion row half = assembled (base_row (compressed_row row).base).pattern (operands row half)

-- a compressed row matches the half word, and this is the word that it stands for
pub record IsExpansion (half w : ℕ) : Type 0 where
  pub row : CompressedRow
  pub match : matches (Compressed row) half ≡ true
  pub word : w ≡ expansion row half

-- a compressed row has the effect of its expansion, at its own length
unfoldable pub effect : RowId → Retire → Opts → Effect
effect (Base row) retire opts = word_effect row retire.insn 4 retire opts
effect (Compressed row) retire opts = word_effect (compressed_row row).base (expansion row retire.insn) 2 retire opts
