use Rattle.bm_induct.proofs.Parts.{parts_are}
use Rattle.bm_induct.proofs.law.parts_of_runs_are_step_runs.Goals as goal

pub returns : goal.returns
returns c = parts_are
