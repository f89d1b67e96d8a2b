use Rattle.vl_flow_spec.proofs.Weighs.{small_weight}
use Rattle.vl_flow_spec.proofs.weights.a_weight_has_64_bits.Goals as goal

pub returns : goal.returns
returns c = small_weight
