use Rattle.ck_design.proofs.Bound.{bound_loaded}
use Rattle.ck_design.proofs.design_law.bound_nets_are_loaded.Goals as goal

pub returns : goal.returns
returns c = bound_loaded
