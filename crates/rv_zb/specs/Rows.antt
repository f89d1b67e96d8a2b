-- Meaning: The rows of Zba and Zbs for words of 32 bits: RISC-V Bit-Manipulation ISA-extensions, version 1.0.0,
-- sections 1.1 and 1.4, and the instruction listings behind them, in this project's order; when a word matches one.
use Rattle.std.specs.Prelude.{◌≡◌, ℕ, Bool, true, List, [], ◌∷◌, codes}
use Rattle.std.specs.List.{list_all}
use Rattle.rv_table.specs.declared.demand.Demand.{Demand}
use Rattle.rv_table.specs.declared.pattern.Form.TheVariants.{R, I}
use Rattle.rv_table.specs.Rows.{Row, with_funct7}
use Rattle.rv_table.specs.Matching.{pattern_demands}
use Rattle.rv_table.specs.Compressed.{meets}
use Rattle.rv_zb.specs.declared.row.ShiftAddRow.{ShiftAddRow}
use Rattle.rv_zb.specs.declared.row.ShiftAddRow.TheVariants.{Sh1add, Sh2add, Sh3add}
use Rattle.rv_zb.specs.declared.row.BitRow.{BitRow}
use Rattle.rv_zb.specs.declared.row.BitRow.TheVariants.{Clear, Extract, Invert, Set}
use Rattle.rv_zb.specs.declared.row.ZbRow.{ZbRow}
use Rattle.rv_zb.specs.declared.row.ZbRow.TheVariants.{ShiftAdd, Bit, BitImmediate}

-- Zba
abbrev pub shift_add_row : ShiftAddRow → Row
shift_add_row Sh1add = with_funct7 (codes "sh1add") 0x33 R 2 0x10
shift_add_row Sh2add = with_funct7 (codes "sh2add") 0x33 R 4 0x10
shift_add_row Sh3add = with_funct7 (codes "sh3add") 0x33 R 6 0x10

-- Zbs, the bit's number in a register
abbrev pub bit_row : BitRow → Row
bit_row Clear = with_funct7 (codes "bclr") 0x33 R 1 0x24
bit_row Extract = with_funct7 (codes "bext") 0x33 R 5 0x24
bit_row Invert = with_funct7 (codes "binv") 0x33 R 1 0x34
bit_row Set = with_funct7 (codes "bset") 0x33 R 1 0x14

-- Zbs, the bit's number in the word: below the seven bits of funct7, whose lowest is 0, as a word of 32 bits asks
abbrev pub bit_immediate_row : BitRow → Row
bit_immediate_row Clear = with_funct7 (codes "bclri") 0x13 I 1 0x24
bit_immediate_row Extract = with_funct7 (codes "bexti") 0x13 I 5 0x24
bit_immediate_row Invert = with_funct7 (codes "binvi") 0x13 I 1 0x34
bit_immediate_row Set = with_funct7 (codes "bseti") 0x13 I 1 0x14

-- the table
abbrev pub zb_row : ZbRow → Row
zb_row (ShiftAdd row) = shift_add_row row
zb_row (Bit row) = bit_row row
zb_row (BitImmediate row) = bit_immediate_row row

-- the rows in order
abbrev pub zb_rows : List ZbRow
zb_rows =
    ShiftAdd Sh1add ∷ ShiftAdd Sh2add ∷ ShiftAdd Sh3add
    ∷ Bit Clear ∷ Bit Extract ∷ Bit Invert ∷ Bit Set
    ∷ BitImmediate Clear ∷ BitImmediate Extract ∷ BitImmediate Invert ∷ BitImmediate Set ∷ []

-- a row's place in that list
abbrev pub shift_add_number : ShiftAddRow → ℕ
shift_add_number Sh1add = 0
shift_add_number Sh2add = 1
shift_add_number Sh3add = 2

abbrev pub bit_number : BitRow → ℕ
bit_number Clear = 3
bit_number Extract = 4
bit_number Invert = 5
bit_number Set = 6

abbrev pub bit_immediate_number : BitRow → ℕ
bit_immediate_number Clear = 7
bit_immediate_number Extract = 8
bit_immediate_number Invert = 9
bit_immediate_number Set = 10

abbrev pub zb_number : ZbRow → ℕ
zb_number (ShiftAdd row) = shift_add_number row
zb_number (Bit row) = bit_number row
zb_number (BitImmediate row) = bit_immediate_number row

-- what a row asks of a word
abbrev pub zb_demands : ZbRow → List Demand
zb_demands row = pattern_demands (zb_row row).pattern

-- the word meets all of it
unfoldable pub zb_matches : ZbRow → ℕ → Bool
zb_matches row w = list_all (meets w) (zb_demands row)

-- the word is one of the row
abbrev pub IsZbMatch : ℕ → ZbRow → Type 0
IsZbMatch w row = zb_matches row w ≡ true
