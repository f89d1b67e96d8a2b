use Rattle.vl_lower_cell_laws.proofs.SourcesWhole.{are_named}
use Rattle.vl_lower_cell_laws.proofs.sources_law.sources_are_named.Goals as goal

pub returns : goal.returns
returns c = are_named
