use Rattle.std.proofs.Common.{◌≡◌, ◌++◌, ◌-◌}
use Rattle.std.specs.List.{flat_map, range_with_len}
use Rattle.ck_ask.specs.ZbChecks.{zb_channel_check, zb_row_checks}
use Rattle.ck_ask.proofs.zb_list.put_row.Given as goal

abbrev pub invariant-loop-channel : goal.invariant-loop-channel
invariant-loop-channel l = l.made ++ flat_map (zb_channel_check l.checks l.row)
    (range_with_len l.channel (l.channels - l.channel)) ≡ l.initial.made ++ zb_row_checks l.checks l.channels l.row
