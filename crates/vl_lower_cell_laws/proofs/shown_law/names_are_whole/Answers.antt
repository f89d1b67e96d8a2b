use Rattle.vl_lower_cell_laws.proofs.ShownWhole.{are_whole}
use Rattle.vl_lower_cell_laws.proofs.shown_law.names_are_whole.Goals as goal

pub returns : goal.returns
returns c = are_whole
