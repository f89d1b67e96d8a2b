use Rattle.vl_lower_assign.proofs.Assigned.{assigned}
use Rattle.vl_lower_assign.proofs.puts_law.puts_are_assignments.Goals as goal

pub returns : goal.returns
returns c = assigned
