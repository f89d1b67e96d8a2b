use Rattle.vl_elab_flatten_laws.proofs.KeptWhole.{design_lawful}
use Rattle.vl_elab_flatten_laws.proofs.kept_law.a_drawn_design_is_lawful.Goals as goal

pub returns : goal.returns
returns c = design_lawful
