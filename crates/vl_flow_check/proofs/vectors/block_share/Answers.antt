use Rattle.vl_flow_check.proofs.Drivers.{block_added}
use Rattle.vl_flow_check.proofs.vectors.block_share.Goals as goal

pub returns : goal.returns
returns c ds K shows =
    block_added c.args.footprint.now.drives c.in_ok-bits.bits c.args.pos c.args.into.now.items
    c.push.new.shares.items c.in_ok-bits.ensures c.in_ok-push.ensures ds K shows
