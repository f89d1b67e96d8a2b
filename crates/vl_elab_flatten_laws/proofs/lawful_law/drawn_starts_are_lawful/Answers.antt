use Rattle.vl_elab_flatten_laws.proofs.LawfulWhole.{design_started}
use Rattle.vl_elab_flatten_laws.proofs.lawful_law.drawn_starts_are_lawful.Goals as goal

pub returns : goal.returns
returns c = design_started
