use Rattle.rvf.proofs.Exiting.{memory_exits}
use Rattle.rvf.proofs.exit.Goals as goal

pub returns-in-Err-clause-unread : goal.returns-in-Err-clause-unread
returns-in-Err-clause-unread g c = memory_exits c.args.words _ _ c.coded-in-Err.ensures
