use Rattle.vl_lower_state.proofs.PhasesTogether.{lower}
use Rattle.vl_lower_state.proofs.phases_law.phases_lower.Goals as goal

pub returns : goal.returns
returns c = lower
