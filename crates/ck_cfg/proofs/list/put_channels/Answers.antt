use Rattle.std.proofs.Common.{◌++◌, rules}
use Rattle.ck_cfg.specs.Checks.{channel_check, channel_checks}
use Rattle.ck_cfg.proofs.Lists.{channel_more}
use Rattle.ck_cfg.proofs.list.put_channels.Goals as goal

pub loop-channel-preserved : goal.loop-channel-preserved
loop-channel-preserved c =
    channel_more (channel_check c.args.config.now.depths c.args.kind c.args.row) c.loop-channel.checks
    c.put_check.new.checks (c.args.checks.now ++ channel_checks c.args.config.now c.args.kind c.args.row)
    c.loop-channel.channel c.args.config.now.nret c.loop-channel-test.true c.loop-channel.invariant (search rules)
