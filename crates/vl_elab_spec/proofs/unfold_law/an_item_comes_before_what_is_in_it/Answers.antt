use Rattle.vl_elab_spec.proofs.Inner.{own_and_inner}
use Rattle.vl_elab_spec.proofs.unfold_law.an_item_comes_before_what_is_in_it.Goals as goal

pub returns : goal.returns
returns c = own_and_inner
