use Rattle.vl_lower_spec.proofs.LoweredWhole.{lowered}
use Rattle.vl_lower_spec.proofs.lowered_law.built_nets_are_lowered.Goals as goal

pub returns : goal.returns
returns c = lowered
