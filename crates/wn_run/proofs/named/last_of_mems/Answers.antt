use Rattle.std.proofs.Common.{arith}
use Rattle.wn_run.proofs.Later.{next_mem}
use Rattle.wn_run.proofs.named.last_of_mems.Goals as goal

pub loop-mem-preserved : goal.loop-mem-preserved
loop-mem-preserved c = (
  omega (arith, c.loop-mem.invariant.0, c.last_of_writes-last.ensures.more),
  next_mem c.args.mems.now c.loop-mem.mem-index c.loop-mem.last c.last_of_writes-last.result c.mem-item.result
      c.as_slice.result.now c.loop-mem-test.true c.last_of_writes-last.ensures.more c.loop-mem.invariant.1
      c.mem-item.is c.as_slice.ensures c.last_of_writes-last.ensures.below,
)

pub returns-clause-below : goal.returns-clause-below
returns-clause-below c = λ k below. c.loop-mem.invariant.1 k (omega (arith, below, c.loop-mem-test.false))
