-- Meaning: The checks of the rows of Zba and Zbs (rule of this project): a row has one for each channel that has insn
-- checks, with their cycle. All insn checks of a channel have one cycle, that of the depth of insn there, and RV32I has
-- rows; so these are the channels that the lines of insn name, whatever the order that the configuration asks for.
use Rattle.std.specs.Prelude.{ℕ, Bool, ◌==◌, ◌&&◌, List, ◌++◌, codes, decimal, find, option_map, option_to_list}
use Rattle.std.specs.List.{flat_map, range_with_len}
use Rattle.ck_cfg.specs.declared.check.Check.{Check}
use Rattle.ck_cfg.specs.declared.kind.CheckKind.TheVariants.{Insn}
use Rattle.ck_cfg.specs.Kind.{is_kind}
use Rattle.rv_zb.specs.declared.row.ZbRow.{ZbRow}
use Rattle.rv_zb.specs.Rows.{zb_row, zb_rows}
use Rattle.ck_ask.specs.declared.zb_check.ZbCheck.{ZbCheck}

-- `insn_ROW_chN`
abbrev pub zb_check_name : ZbRow → ℕ → List ℕ
zb_check_name row channel = codes "insn_" ++ (zb_row row).name ++ codes "_ch" ++ decimal channel

-- the check of a row at a channel, in a cycle
abbrev pub zb_check_at : ZbRow → ℕ → ℕ → ZbCheck
zb_check_at row channel cycle =
    record { name = zb_check_name row channel; row = row; channel = channel; cycle = cycle }

-- an insn check of the channel
abbrev pub is_insn_at : ℕ → Check → Bool
is_insn_at channel c = is_kind c.kind Insn && c.channel == channel

-- the check at a channel, where insn has one there
abbrev pub zb_channel_check : List Check → ZbRow → ℕ → List ZbCheck
zb_channel_check checks row channel =
    option_to_list (option_map (zb_check_at row channel) (option_map (λ c. c.cycle) (find (is_insn_at channel) checks)))

-- the checks of a row, in the order of the channels
abbrev pub zb_row_checks : List Check → ℕ → ZbRow → List ZbCheck
zb_row_checks checks channels row = flat_map (zb_channel_check checks row) (range_with_len 0 channels)

-- those of all rows, beside these checks of so many channels
abbrev pub zb_checks_of : List Check → ℕ → List ZbCheck
zb_checks_of checks channels = flat_map (zb_row_checks checks channels) zb_rows
