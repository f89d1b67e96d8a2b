use Rattle.vl_mean_flat.proofs.Design.{same_maps}
use Rattle.vl_mean_flat.proofs.same_law.a_flat_design_has_the_same_maps.Goals as goal

pub returns : goal.returns
returns c = same_maps
