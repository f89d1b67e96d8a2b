use Rattle.vl_lower.proofs.Those.{those}
use Rattle.vl_lower.proofs.listed_law.entries_are_those.Goals as goal

pub returns : goal.returns
returns c = those
