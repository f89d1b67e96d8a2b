use Rattle.std.proofs.Common.{arith}
use Rattle.vl_flow_order.proofs.Turns.{earliest_whole, none_earlier}
use Rattle.vl_flow_order.proofs.loops.earliest.Goals as goal

pub loop-at-init : goal.loop-at-init
loop-at-init c =
    record { within = c.requires.some; earliest = none_earlier c.args.drivers.now c.args.numbers.now 0 }

pub loop-at-preserved : goal.loop-at-preserved
loop-at-preserved c =
    let best = c.better-best.ensures in
    record { within = best.within; earliest = best.earliest c.loop-at.invariant.earliest }

pub returns-clause-earliest : goal.returns-clause-earliest
returns-clause-earliest c =
    earliest_whole c.args.drivers.now c.args.numbers.now c.loop-at.at c.loop-at.best (omega arith)
    c.loop-at.invariant.earliest
