-- Between functions: What holds of the rows of Zba and Zbs as a whole. Rule of this project.
use Rattle.std.specs.Prelude.{◌≡◌, ℕ, true, false, Some, slice_get}
use Rattle.rv_table.specs.declared.row.RowId.{RowId}
use Rattle.rv_table.specs.declared.retire.Retire.{Retire}
use Rattle.rv_table.specs.declared.retire.Opts.{Opts}
use Rattle.rv_table.specs.Matching.{matches}
use Rattle.rv_zb.specs.declared.row.ZbRow.{ZbRow}
use Rattle.rv_zb.specs.Rows.{zb_matches, zb_rows, zb_number}
use Rattle.rv_zb.specs.Effect.{zb_effect, zb_effect_under}

-- no word matches two rows
abbrev pub AtMostOneZbRowMatches : Type 0
AtMostOneZbRowMatches =
    (row other : ZbRow) (w : ℕ) → zb_matches row w ≡ true → zb_matches other w ≡ true → row ≡ other

-- no word matches a row of these and one of RV32I, M and C
abbrev pub NoRowOfTheBaseMatches : Type 0
NoRowOfTheBaseMatches =
    (row : ZbRow) (other : RowId) (w : ℕ) → zb_matches row w ≡ true → matches other w ≡ false

-- each row stands in the list at its number
abbrev pub EachZbRowIsAtItsNumber : Type 0
EachZbRowIsAtItsNumber = (row : ZbRow) → slice_get zb_rows (zb_number row) ≡ Some row

-- the effect is the same under all options
abbrev pub OptionsPlayNoPart : Type 0
OptionsPlayNoPart =
    (row : ZbRow) (retire : Retire) (opts : Opts) → zb_effect_under opts row retire ≡ zb_effect row retire
