use Rattle.ck_induct.proofs.Allowed.{steps_allowed}
use Rattle.ck_induct.proofs.law.step_runs_are_allowed.Goals as goal

pub returns : goal.returns
returns c = steps_allowed
