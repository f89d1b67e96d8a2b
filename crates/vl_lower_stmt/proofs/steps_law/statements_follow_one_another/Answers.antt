use Rattle.vl_lower_stmt.proofs.Branches.{all_more}
use Rattle.vl_lower_stmt.proofs.steps_law.statements_follow_one_another.Goals as goal

pub returns : goal.returns
returns c = all_more
