use Rattle.vl_elab_scope.proofs.AlikeObjects.{same_object}
use Rattle.vl_elab_scope.proofs.alike_law.meanings_decide_declarations.Goals as goal

pub returns : goal.returns
returns c = same_object
