use Rattle.vl_lower_cell_laws.proofs.Agree.{agree}
use Rattle.vl_lower_cell_laws.proofs.entries_law.entries_agree.Goals as goal

pub returns : goal.returns
returns c = agree
