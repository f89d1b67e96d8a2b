use Rattle.vl_elab_flatten_laws.proofs.Declared.{may_be_written}
use Rattle.vl_elab_flatten_laws.proofs.behind_law.a_design_may_be_written.Goals as goal

pub returns : goal.returns
returns c = may_be_written
