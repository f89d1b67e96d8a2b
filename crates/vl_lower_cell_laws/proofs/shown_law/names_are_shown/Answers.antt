use Rattle.vl_lower_cell_laws.proofs.Showing.{are_shown}
use Rattle.vl_lower_cell_laws.proofs.shown_law.names_are_shown.Goals as goal

pub returns : goal.returns
returns c = are_shown
