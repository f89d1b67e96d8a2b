use Rattle.vl_lower_spec.proofs.Allowed.{allowed}
use Rattle.vl_lower_spec.proofs.evals_law.runs_are_allowed.Goals as goal

pub returns : goal.returns
returns c = allowed
