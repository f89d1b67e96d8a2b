use Rattle.std.proofs.Common.{◌≡◌, ◌++◌, ◌-◌}
use Rattle.std.specs.List.{flat_map, range_with_len}
use Rattle.ck_cfg.specs.Checks.{channel_check, channel_checks}
use Rattle.ck_cfg.proofs.list.put_channels.Given as goal

abbrev pub invariant-loop-channel : goal.invariant-loop-channel
invariant-loop-channel l = l.checks ++ flat_map (channel_check l.config.depths l.kind l.row)
    (range_with_len l.channel (l.channel-end - l.channel)) ≡ l.initial.checks ++ channel_checks l.config l.kind l.row
