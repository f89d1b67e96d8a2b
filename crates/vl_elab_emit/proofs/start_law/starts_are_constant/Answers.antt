use Rattle.vl_elab_emit.proofs.Refusing.{starts}
use Rattle.vl_elab_emit.proofs.start_law.starts_are_constant.Goals as goal

pub returns : goal.returns
returns c = starts
