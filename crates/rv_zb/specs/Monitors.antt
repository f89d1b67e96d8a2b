-- Between functions: The circuit of a row over that of a row of RV32I, and when a retirement disagrees with a row (rule
-- of this project).
use Rattle.std.specs.Prelude.{ℕ, Bool, not, ◌&&◌}
use Rattle.rv_table.specs.declared.retire.Retire.{Retire}
use Rattle.rv_table.specs.declared.retire.Effect.{Effect}
use Rattle.rv_table.specs.declared.row.BaseRow.{BaseRow}
use Rattle.rv_table.specs.declared.row.BaseRow.TheVariants.{Immediate, Register}
use Rattle.rv_table.specs.declared.row.ImmediateRow.TheVariants.{Addi}
use Rattle.rv_table.specs.declared.row.RegisterRow.TheVariants.{Add}
use Rattle.rv_table.specs.Effect.{unless_x0}
use Rattle.rv_table.specs.Agree.{agrees}
use Rattle.rv_zb.specs.declared.row.ZbRow.{ZbRow}
use Rattle.rv_zb.specs.declared.row.ZbRow.TheVariants.{ShiftAdd, Bit, BitImmediate}
use Rattle.rv_zb.specs.Rows.{zb_matches}
use Rattle.rv_zb.specs.Effect.{zb_result, zb_effect}

-- a row of RV32I of the same form, whose effects differ in what rd gets alone
abbrev pub like : ZbRow → BaseRow
like (ShiftAdd row) = Register Add
like (Bit row) = Register Add
like (BitImmediate row) = Immediate Addi

-- what rd gets, where an effect has these addresses
abbrev pub result_beside : ZbRow → Retire → Effect → ℕ
result_beside row r e =
    unless_x0 e.rd_addr
    (zb_result row r.insn (unless_x0 e.rs1_addr r.rs1_rdata) (unless_x0 e.rs2_addr r.rs2_rdata))

-- the same effect, where rd gets this
abbrev pub with_result : ZbRow → Retire → Effect → Effect
with_result row r e = record e { rd_wdata = result_beside row r e }

-- the word is one of the row, and the retirement isn't what the row does
abbrev pub disagrees : ZbRow → Retire → Bool
disagrees row r = zb_matches row r.insn && not (agrees r (zb_effect row r))
