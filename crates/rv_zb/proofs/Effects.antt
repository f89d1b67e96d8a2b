-- Options play no part, and an effect is that of a row of RV32I but for what rd gets.
use Rattle.std.proofs.Common.{◌≡◌, refl}
use Rattle.rv_table.specs.declared.retire.Retire.{Retire}
use Rattle.rv_table.specs.declared.retire.Opts.{Opts}
use Rattle.rv_table.specs.declared.row.RowId.TheVariants.{Base}
use Rattle.rv_table.specs.Effect.{step, gives, base_effect, effect}
use Rattle.rv_zb.specs.declared.row.ShiftAddRow.TheVariants.{Sh1add, Sh2add, Sh3add}
use Rattle.rv_zb.specs.declared.row.BitRow.TheVariants.{Clear, Extract, Invert, Set}
use Rattle.rv_zb.specs.declared.row.ZbRow.{ZbRow}
use Rattle.rv_zb.specs.declared.row.ZbRow.TheVariants.{ShiftAdd, Bit, BitImmediate}
use Rattle.rv_zb.specs.Effect.{zb_effect, zb_effect_under, no_opts}
use Rattle.rv_zb.specs.Monitors.{like, with_result}

pub no_part : (row : ZbRow) (retire : Retire) (opts : Opts) → zb_effect_under opts row retire ≡ zb_effect row retire
unfolding step gives zb_effect
no_part (ShiftAdd row) retire opts = refl
no_part (Bit row) retire opts = refl
no_part (BitImmediate row) retire opts = refl

pub like_is : (row : ZbRow) (r : Retire) → with_result row r (effect (Base (like row)) r no_opts) ≡ zb_effect row r
unfolding step gives base_effect effect zb_effect
like_is (ShiftAdd Sh1add) r = refl
like_is (ShiftAdd Sh2add) r = refl
like_is (ShiftAdd Sh3add) r = refl
like_is (Bit Clear) r = refl
like_is (Bit Extract) r = refl
like_is (Bit Invert) r = refl
like_is (Bit Set) r = refl
like_is (BitImmediate Clear) r = refl
like_is (BitImmediate Extract) r = refl
like_is (BitImmediate Invert) r = refl
like_is (BitImmediate Set) r = refl
