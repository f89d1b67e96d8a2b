use Rattle.vl_lower_spec.proofs.Evaluated.{evaluated}
use Rattle.vl_lower_spec.proofs.evals_law.runs_are_evaluated.Goals as goal

pub returns : goal.returns
returns c = evaluated
