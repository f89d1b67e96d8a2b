use Rattle.std.proofs.Common.{sym}
use Rattle.vl_flow_check.specs.Earliest.{listed}
use Rattle.vl_flow_check.proofs.Orders.{with_it, without_it}
use Rattle.vl_flow_check.proofs.earliest.Earliest.with_share.Goals as goal

pub returns-then-has : goal.returns-then-has
returns-then-has c shares were =
    with_it c.args.share.now shares c.args.cell c.args.bit (listed c.args.self) (listed c.with.result)
    (sym c.if-has.ensures) were c.with.ensures

pub returns : goal.returns
returns c shares were =
    without_it c.args.share.now shares c.args.cell c.args.bit (listed c.args.self) (sym c.if-has.ensures) were
