use Rattle.rvf_load.proofs.InOrder.{unordered}
use Rattle.rvf_load.proofs.ordering.ordered.Goals as goal

pub returns-in-Err : goal.returns-in-Err
returns-in-Err c = rw (c.of_flow.ensures) (unordered c.args.flat c.in-Err.fault c.in-Err.ensures.refused)
