use Rattle.vl_lower_state.proofs.Whole.{words_next}
use Rattle.vl_lower_state.proofs.held_law.words_are_next.Goals as goal

pub returns : goal.returns
returns c = words_next
