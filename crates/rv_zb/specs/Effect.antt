-- Meaning: What an instruction of Zba or Zbs does: RISC-V Bit-Manipulation ISA-extensions, version 1.0.0, sections 1.1
-- and 1.4, on whole numbers, for words of 32 bits.
use Rattle.std.specs.Prelude.{ℕ, ◌+◌, ◌-◌, ◌*◌, ◌%◌, ◌^◌, false, bit_and, bit_or, bit_xor}
use Rattle.fv_bits.specs.Bits.{part}
use Rattle.rv_table.specs.declared.retire.Retire.{Retire}
use Rattle.rv_table.specs.declared.retire.Opts.{Opts}
use Rattle.rv_table.specs.declared.retire.Effect.{Effect}
use Rattle.rv_table.specs.declared.step.Step.{Step}
use Rattle.rv_table.specs.Fields.{field}
use Rattle.rv_table.specs.Effect.{step, gives}
use Rattle.rv_zb.specs.declared.row.ShiftAddRow.{ShiftAddRow}
use Rattle.rv_zb.specs.declared.row.ShiftAddRow.TheVariants.{Sh1add, Sh2add, Sh3add}
use Rattle.rv_zb.specs.declared.row.BitRow.{BitRow}
use Rattle.rv_zb.specs.declared.row.BitRow.TheVariants.{Clear, Extract, Invert, Set}
use Rattle.rv_zb.specs.declared.row.ZbRow.{ZbRow}
use Rattle.rv_zb.specs.declared.row.ZbRow.TheVariants.{ShiftAdd, Bit, BitImmediate}
use Rattle.rv_zb.specs.Rows.{zb_row}

-- by how many bits s1 is moved to the left
abbrev pub shift : ShiftAddRow → ℕ
shift Sh1add = 1
shift Sh2add = 2
shift Sh3add = 3

-- the low 32 bits of the sum
abbrev pub shifted_sum : ℕ → ℕ → ℕ → ℕ
shifted_sum by s1 s2 = (s1 * 2 ^ by + s2) % 2 ^ 32

-- the word with bit k 0; bit k alone; with bit k turned; with bit k 1
abbrev pub bit_result : BitRow → ℕ → ℕ → ℕ
bit_result Clear s k = bit_and s (2 ^ 32 - 1 - 2 ^ k)
bit_result Extract s k = part k 1 s
bit_result Invert s k = bit_xor s (2 ^ k)
bit_result Set s k = bit_or s (2 ^ k)

-- what rd gets of the word, s1 and s2; the number of the bit is in the low five bits of s2, or in the bits 24:20 of the
-- word
abbrev pub zb_result : ZbRow → ℕ → ℕ → ℕ → ℕ
zb_result (ShiftAdd row) w s1 s2 = shifted_sum (shift row) s1 s2
zb_result (Bit row) w s1 s2 = bit_result row s1 (field 4 0 s2)
zb_result (BitImmediate row) w s1 s2 = bit_result row s1 (field 24 20 w)

-- no row reaches memory, jumps or is of M, so that options play no part
abbrev pub no_opts : Opts
no_opts = record { aligned = false; altops = false; c = false }

-- an instruction of the row, as it finds its sources
abbrev pub zb_step : ZbRow → Retire → Opts → Step
zb_step row retire opts = step (zb_row row).pattern.form retire.insn 4 retire opts

-- rd gets the row's result, and the next word follows
abbrev pub zb_effect_under : Opts → ZbRow → Retire → Effect
zb_effect_under opts row retire =
    let x = zb_step row retire opts in
    gives x (zb_result row x.word x.s1 x.s2)

-- the effect
unfoldable pub zb_effect : ZbRow → Retire → Effect
zb_effect row retire = zb_effect_under no_opts row retire
