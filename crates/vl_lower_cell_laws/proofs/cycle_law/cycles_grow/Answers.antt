use Rattle.vl_lower_cell_laws.proofs.Turning.{grow}
use Rattle.vl_lower_cell_laws.proofs.cycle_law.cycles_grow.Goals as goal

pub returns : goal.returns
returns c = grow
