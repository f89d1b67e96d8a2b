use Rattle.ck_induct.proofs.Evaluated.{steps_evaluated}
use Rattle.ck_induct.proofs.law.step_runs_are_evaluated.Goals as goal

pub returns : goal.returns
returns c = steps_evaluated
