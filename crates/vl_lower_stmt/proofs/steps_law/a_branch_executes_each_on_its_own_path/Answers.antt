use Rattle.vl_lower_stmt.proofs.Branches.{two_branches}
use Rattle.vl_lower_stmt.proofs.steps_law.a_branch_executes_each_on_its_own_path.Goals as goal

pub returns : goal.returns
returns c = two_branches
