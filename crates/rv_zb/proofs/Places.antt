-- The list of rows has each row at its number.
use Rattle.std.proofs.Common.{◌≡◌, ℕ, ◌<◌, ◌≤◌, ◌↔◌, IsNone, Some, slice_get, refl, arith}
use Rattle.rv_table.proofs.Places.{none_past, past_none}
use Rattle.rv_zb.specs.declared.row.ShiftAddRow.TheVariants.{Sh1add, Sh2add, Sh3add}
use Rattle.rv_zb.specs.declared.row.BitRow.TheVariants.{Clear, Extract, Invert, Set}
use Rattle.rv_zb.specs.declared.row.ZbRow.{ZbRow}
use Rattle.rv_zb.specs.declared.row.ZbRow.TheVariants.{ShiftAdd, Bit, BitImmediate}
use Rattle.rv_zb.specs.Rows.{zb_rows, zb_number}

pub row_at : (r : ZbRow) → slice_get zb_rows (zb_number r) ≡ Some r
row_at (ShiftAdd Sh1add) = refl
row_at (ShiftAdd Sh2add) = refl
row_at (ShiftAdd Sh3add) = refl
row_at (Bit Clear) = refl
row_at (Bit Extract) = refl
row_at (Bit Invert) = refl
row_at (Bit Set) = refl
row_at (BitImmediate Clear) = refl
row_at (BitImmediate Extract) = refl
row_at (BitImmediate Invert) = refl
row_at (BitImmediate Set) = refl

pub none_above : (i : ℕ) → IsNone (slice_get zb_rows i) ↔ (10 < i)
none_above i =
    (λ none. let h : 11 ≤ i = none_past zb_rows i none in omega arith, λ above. past_none zb_rows i (omega arith))
