use Rattle.wn_opt.proofs.Walking.{roots_needed}
use Rattle.wn_opt.proofs.marks.needed.Goals as goal

pub mark_all-requires-clause-needed : goal.mark_all-requires-clause-needed
mark_all-requires-clause-needed c = roots_needed c.args.net.now c.args.roots.now
