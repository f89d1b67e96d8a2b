use Rattle.std.proofs.Common.{sym}
use Rattle.vl_flow_order.proofs.Turns.{earlier_one, no_earlier_one}
use Rattle.vl_flow_order.proofs.loops.better.Goals as goal

pub returns-then-is_earlier-clause-earliest : goal.returns-then-is_earlier-clause-earliest
returns-then-is_earlier-clause-earliest c were =
    earlier_one c.args.drivers.now c.args.numbers.now c.args.at c.args.best c.place_at-place.result c.place_at.result
    c.requires.known c.requires.best c.place_at-place.ensures c.place_at.ensures were (sym c.if-is_earlier.ensures)

pub returns-clause-earliest : goal.returns-clause-earliest
returns-clause-earliest c were =
    no_earlier_one c.args.drivers.now c.args.numbers.now c.args.at c.args.best c.place_at-place.result
    c.place_at.result c.place_at-place.ensures c.place_at.ensures were (sym c.if-is_earlier.ensures)
