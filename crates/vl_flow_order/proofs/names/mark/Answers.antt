use Rattle.vl_flow_order.proofs.Marks.{mark_is}
use Rattle.vl_flow_order.proofs.names.mark.Goals as goal

pub returns : goal.returns
returns c =
    let made = c.in_ok-of_cells.ensures in
    mark_is c.in_ok-of_cells.field-0 c.args.group c.from-first.result c.from-first.ensures made.inside made.before
    made.behind
