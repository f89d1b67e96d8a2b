use Rattle.ck_design.proofs.Shorter.{reached_kinds}
use Rattle.ck_design.proofs.design_law.reached_kinds_have_runs.Goals as goal

pub returns : goal.returns
returns c = reached_kinds
