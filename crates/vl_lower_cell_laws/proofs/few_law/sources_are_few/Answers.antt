use Rattle.vl_lower_cell_laws.proofs.Few.{are_few}
use Rattle.vl_lower_cell_laws.proofs.few_law.sources_are_few.Goals as goal

pub returns : goal.returns
returns c = are_few
