use Rattle.vl_lower_cell_laws.proofs.Listed.{are_listed}
use Rattle.vl_lower_cell_laws.proofs.entries_law.entries_are_listed.Goals as goal

pub returns : goal.returns
returns c = are_listed
