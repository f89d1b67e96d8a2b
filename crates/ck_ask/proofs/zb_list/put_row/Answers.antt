use Rattle.std.proofs.Common.{◌++◌, rules}
use Rattle.ck_ask.specs.ZbChecks.{zb_channel_check, zb_row_checks}
use Rattle.ck_ask.proofs.ZbLists.{channel_more}
use Rattle.ck_ask.proofs.zb_list.put_row.Goals as goal

pub loop-channel-preserved : goal.loop-channel-preserved
loop-channel-preserved c =
    channel_more (zb_channel_check c.args.checks.now c.args.row) c.loop-channel.made c.put_check.new.made
    (c.args.made.now ++ zb_row_checks c.args.checks.now c.args.channels c.args.row) c.loop-channel.channel
    c.args.channels c.loop-channel-test.true c.loop-channel.invariant (search rules)
