use Rattle.std.proofs.Common.{◌∙◌, ap}
use Rattle.std.specs.Prelude.{is_some}
use Rattle.vl_elab_scope.proofs.constants.is_constant.Goals as goal

pub returns : goal.returns
returns c = c.is_some.ensures ∙ ap is_some c.constant_of.ensures
