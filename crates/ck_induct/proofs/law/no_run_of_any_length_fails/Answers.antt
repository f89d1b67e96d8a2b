use Rattle.ck_induct.proofs.Steps.{none_fails}
use Rattle.ck_induct.proofs.law.no_run_of_any_length_fails.Goals as goal

pub returns : goal.returns
returns c = none_fails
