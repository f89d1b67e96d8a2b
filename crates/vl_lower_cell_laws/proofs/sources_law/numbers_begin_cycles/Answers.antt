use Rattle.vl_lower_cell_laws.proofs.Cycle.{begin_cycles}
use Rattle.vl_lower_cell_laws.proofs.sources_law.numbers_begin_cycles.Goals as goal

pub returns : goal.returns
returns c = begin_cycles
