use Rattle.ck_design.proofs.Dumps.{dumps}
use Rattle.ck_design.proofs.traces_law.traces_have_dumps.Goals as goal

pub returns : goal.returns
returns c = dumps
