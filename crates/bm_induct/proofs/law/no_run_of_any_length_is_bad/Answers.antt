use Rattle.bm_induct.proofs.None.{none_of_any_length}
use Rattle.bm_induct.proofs.law.no_run_of_any_length_is_bad.Goals as goal

pub returns : goal.returns
returns c = none_of_any_length
