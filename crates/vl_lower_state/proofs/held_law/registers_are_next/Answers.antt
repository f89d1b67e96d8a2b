use Rattle.vl_lower_state.proofs.Whole.{registers_next}
use Rattle.vl_lower_state.proofs.held_law.registers_are_next.Goals as goal

pub returns : goal.returns
returns c = registers_next
