use Rattle.std.proofs.Common.{◌∙◌, ap}
use Rattle.vl_elab_spec.specs.Meanings.{value_of}
use Rattle.vl_elab_scope.proofs.constants.constant_of.Goals as goal

pub returns : goal.returns
returns c = c.constant_among.ensures ∙ ap value_of c.meaning.ensures.value
