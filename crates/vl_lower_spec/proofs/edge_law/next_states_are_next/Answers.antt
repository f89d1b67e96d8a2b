use Rattle.vl_lower_spec.proofs.Writing.{next_is}
use Rattle.vl_lower_spec.proofs.edge_law.next_states_are_next.Goals as goal

pub returns : goal.returns
returns c = next_is
