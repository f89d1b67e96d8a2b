-- Between functions: What holds of the tables as a whole. Rule of this project.
use Rattle.std.specs.Prelude.{
  Some,
  false,
  slice_get,
  true,
  ℕ,
  ◌*ℤ◌,
  ◌*◌,
  ◌+ℤ◌,
  ◌+◌,
  ◌-◌,
  ◌<◌,
  ◌==◌,
  ◌^◌,
  ◌≡◌,
}
use Rattle.std.specs.Int.{w32}
use Rattle.std.specs.Int.RustNames.{FitsSigned, int_div}
use Rattle.rv_table.specs.Arithmetic.{signed, quotient, quotient_signed, remainder, remainder_signed}
use Rattle.rv_table.specs.declared.retire.Retire.{Retire}
use Rattle.rv_table.specs.declared.retire.Opts.{Opts}
use Rattle.rv_table.specs.declared.row.BaseRow.{BaseRow}
use Rattle.rv_table.specs.declared.row.CompressedRow.{CompressedRow}
use Rattle.rv_table.specs.declared.row.RowId.{RowId}
use Rattle.rv_table.specs.declared.row.RowId.TheVariants.{Base, Compressed}
use Rattle.rv_table.specs.declared.assemble.Operands.{Operands}
use Rattle.rv_table.specs.Rows.{base_row}
use Rattle.rv_table.specs.Compressed.{compressed_row}
use Rattle.rv_table.specs.Assembled.{AreRegisters, assembled}
use Rattle.rv_table.specs.Matching.{matches, rows, number}
use Rattle.rv_table.specs.Effect.{expansion, word_effect, effect}

-- no word matches two rows
abbrev pub AtMostOneRowMatches : Type 0
AtMostOneRowMatches =
    (row other : RowId) (w : ℕ) → matches row w ≡ true → matches other w ≡ true → row ≡ other

-- each row stands in the list at its number, so two rows have different numbers
abbrev pub EachRowIsAtItsNumber : Type 0
EachRowIsAtItsNumber = (row : RowId) → slice_get rows (number row) ≡ Some row

-- a word that is laid out for a row matches it
abbrev pub AssembledWordsMatch : Type 0
AssembledWordsMatch =
    (row : BaseRow) (x : Operands) → AreRegisters x →
    matches (Base row) (assembled (base_row row).pattern x) ≡ true

-- what a half word stands for is a word of the row that the table names
abbrev pub ExpansionsMatch : Type 0
ExpansionsMatch =
    (row : CompressedRow) (half : ℕ) → matches (Base (compressed_row row).base) (expansion row half) ≡ true

-- whatever row the expansion matches, a compressed row has its effect on the expansion, with length 2
abbrev pub CompressedRowsDoAsTheirExpansions : Type 0
CompressedRowsDoAsTheirExpansions =
    (row : CompressedRow) (base : BaseRow) (retire : Retire) (opts : Opts) →
    matches (Base base) (expansion row retire.insn) ≡ true →
    effect (Compressed row) retire opts ≡ word_effect base (expansion row retire.insn) 2 retire opts

-- Manual, section 7.2: table 7.1, of division by zero and of overflow, and that the dividend is the divisor times the
-- quotient, plus the remainder.
pub record DividesAsTheManualSays : Type 0 where
  pub quotient_by_zero : (a : ℕ) → quotient a 0 ≡ 2 ^ 32 - 1
  pub remainder_by_zero : (a : ℕ) → remainder a 0 ≡ a
  pub signed_quotient_by_zero : (a : ℕ) → quotient_signed a 0 ≡ 2 ^ 32 - 1
  pub signed_remainder_by_zero : (a : ℕ) → remainder_signed a 0 ≡ a
  pub overflowing_quotient : quotient_signed (2 ^ 31) (2 ^ 32 - 1) ≡ 2 ^ 31
  pub overflowing_remainder : remainder_signed (2 ^ 31) (2 ^ 32 - 1) ≡ 0
  pub dividend : (a b : ℕ) → (b == 0) ≡ false → b * quotient a b + remainder a b ≡ a
  pub signed_dividend :
      (a b : ℕ) → a < 2 ^ 32 → (b == 0) ≡ false → FitsSigned w32 (int_div (signed a) (signed b)) →
      signed (quotient_signed a b) *ℤ signed b +ℤ signed (remainder_signed a b) ≡ signed a
