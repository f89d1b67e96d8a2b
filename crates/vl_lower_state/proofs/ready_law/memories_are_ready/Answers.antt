use Rattle.vl_lower_state.proofs.Memories.{may_be_stored}
use Rattle.vl_lower_state.proofs.ready_law.memories_are_ready.Goals as goal

pub returns : goal.returns
returns c = may_be_stored
