use Rattle.vl_flow_spec.proofs.Laws.{value_depends}
use Rattle.vl_flow_spec.proofs.path_law.a_value_depends_on_what_is_read.Goals as goal

pub returns : goal.returns
returns c = value_depends
