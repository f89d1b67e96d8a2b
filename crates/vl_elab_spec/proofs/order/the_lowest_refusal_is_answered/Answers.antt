use Rattle.vl_elab_spec.proofs.LowestFirst.{lowest_found}
use Rattle.vl_elab_spec.proofs.order.the_lowest_refusal_is_answered.Goals as goal

pub returns : goal.returns
returns c gs g h = lowest_found gs g h
