use Rattle.std.proofs.Common.{arith}
use Rattle.wn_run.proofs.Later.{next_id}
use Rattle.wn_run.proofs.named.last_of_nodes.Goals as goal

pub loop-id-preserved : goal.loop-id-preserved
loop-id-preserved c = (
  omega (arith, c.loop-id.invariant.0, c.later-last.ensures.more),
  next_id c.args.ids.now c.loop-id.id-index c.loop-id.last c.later-last.result _
      c.loop-id-test.true c.later-last.ensures.more c.loop-id.invariant.1 c.later-last.ensures.below,
)
