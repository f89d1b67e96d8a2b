use Rattle.vl_prep.proofs.Quieted.{nothing_seen}
use Rattle.vl_prep.proofs.quiet.Quiet.seen.Goals as goal

pub returns-in-None : goal.returns-in-None
returns-in-None c n h = absurd (nothing_seen n h)
