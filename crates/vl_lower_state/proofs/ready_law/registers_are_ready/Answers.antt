use Rattle.vl_lower_state.proofs.Registers.{are_ready}
use Rattle.vl_lower_state.proofs.ready_law.registers_are_ready.Goals as goal

pub returns : goal.returns
returns c = are_ready
