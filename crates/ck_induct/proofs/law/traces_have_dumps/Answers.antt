use Rattle.ck_induct.proofs.Traced.{dumped}
use Rattle.ck_induct.proofs.law.traces_have_dumps.Goals as goal

pub returns : goal.returns
returns c = dumped
