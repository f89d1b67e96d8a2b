use Rattle.vl_lower_cell_laws.proofs.Assumes.{seen_assumed}
use Rattle.vl_lower_cell_laws.proofs.settled_law.seen_is_assumed.Goals as goal

pub returns : goal.returns
returns c = seen_assumed
