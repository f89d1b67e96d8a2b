use Rattle.rvf_load.proofs.InOrder.{flat_is, in_order, no_design}
use Rattle.rvf_load.proofs.ordering.in_order.Goals as goal

pub returns-in-Ok : goal.returns-in-Ok
returns-in-Ok c =
    let flat = flat_is c.args.modules.now c.in_ok-top.top c.in-Ok.flat c.in_ok-top.ensures c.in-Ok.ensures.unrefused
    c.in-Ok.ensures.drawn c.in-Ok.ensures.placed c.in-Ok.ensures.maps in
    in_order c.args.modules.now c.in-Ok.flat c.ordered.result flat c.ordered.ensures

pub returns : goal.returns
returns c =
    rw (c.of_elab.ensures)
    (no_design c.args.modules.now c.in_ok-top.top c.in-Err.reason c.in_ok-top.ensures c.in-Err.ensures.refused)
