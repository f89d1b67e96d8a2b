use Rattle.std.proofs.Common.{arith}
use Rattle.wn_net.specs.declared.parts.Reg.{Reg}
use Rattle.wn_run.proofs.Later.{next_named}
use Rattle.wn_run.proofs.named.last_of_regs.Goals as goal

pub loop-reg-preserved : goal.loop-reg-preserved
loop-reg-preserved c = (
  omega (arith, c.loop-reg.invariant.0, c.later-last.ensures.more),
  next_named (λ (r : Reg). r.next) c.args.regs.now c.loop-reg.reg-index c.loop-reg.last c.later-last.result _
      c.loop-reg-test.true c.later-last.ensures.more c.loop-reg.invariant.1 c.later-last.ensures.below,
)
