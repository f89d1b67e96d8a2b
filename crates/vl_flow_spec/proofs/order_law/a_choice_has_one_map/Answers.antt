use Rattle.vl_flow_spec.proofs.Held.{has_one_map}
use Rattle.vl_flow_spec.proofs.order_law.a_choice_has_one_map.Goals as goal

pub returns : goal.returns
returns c = has_one_map
