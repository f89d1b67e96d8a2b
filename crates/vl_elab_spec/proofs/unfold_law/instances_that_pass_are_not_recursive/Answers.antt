use Rattle.vl_elab_spec.proofs.Inner.{not_recursive}
use Rattle.vl_elab_spec.proofs.unfold_law.instances_that_pass_are_not_recursive.Goals as goal

pub returns : goal.returns
returns c = not_recursive
