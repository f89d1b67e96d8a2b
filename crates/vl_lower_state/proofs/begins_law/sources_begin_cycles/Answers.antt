use Rattle.vl_lower_state.proofs.Begun.{begin}
use Rattle.vl_lower_state.proofs.begins_law.sources_begin_cycles.Goals as goal

pub returns : goal.returns
returns c = begin
