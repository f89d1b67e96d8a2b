use Rattle.vl_flow_spec.proofs.Loops.{no_loop}
use Rattle.vl_flow_spec.proofs.order_law.an_order_has_no_loop.Goals as goal

pub returns : goal.returns
returns c = no_loop
