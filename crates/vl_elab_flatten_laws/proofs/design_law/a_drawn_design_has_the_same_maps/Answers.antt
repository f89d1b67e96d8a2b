use Rattle.vl_elab_flatten_laws.proofs.DesignSteps.{design_maps}
use Rattle.vl_elab_flatten_laws.proofs.design_law.a_drawn_design_has_the_same_maps.Goals as goal

pub returns : goal.returns
returns c = design_maps
