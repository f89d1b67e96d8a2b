use Rattle.std.proofs.Common.{◌∙◌, ap}
use Rattle.vl_elab_scope.specs.Contexts.{meant_context}
use Rattle.vl_elab_scope.proofs.Contexts.{name_is}
use Rattle.vl_elab_scope.proofs.context.name_context.Goals as goal

pub returns-clause-value : goal.returns-clause-value
returns-clause-value c p =
    c.meant_context.ensures.value ∙ ap meant_context c.meaning.ensures.value
    ∙ name_is c.args.names.now p c.args.text.now c.meaning.ensures.named
