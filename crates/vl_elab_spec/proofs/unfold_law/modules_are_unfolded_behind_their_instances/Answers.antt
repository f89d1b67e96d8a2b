use Rattle.vl_elab_spec.proofs.Unfolded.{next_unfolded}
use Rattle.vl_elab_spec.proofs.unfold_law.modules_are_unfolded_behind_their_instances.Goals as goal

pub returns : goal.returns
returns c = next_unfolded
