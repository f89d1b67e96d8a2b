use Rattle.ck_induct.proofs.Telling.{monitors_tell}
use Rattle.ck_induct.proofs.law.monitors_tell_lack.Goals as goal

pub returns : goal.returns
returns c = monitors_tell
