use Rattle.std.proofs.Common.{◌∙◌, ap}
use Rattle.vl_size.specs.Divisors.{own_context}
use Rattle.vl_elab_spec.specs.Meanings.{objects}
use Rattle.vl_elab_scope.proofs.Agree.{same_own}
use Rattle.vl_elab_scope.proofs.context.context_by_table.Goals as goal

pub returns-clause-value : goal.returns-clause-value
returns-clause-value c =
    c.own_context.ensures.value
    ∙ same_own c.in_ok-decls.decls (objects c.args.names.now) c.in_ok-expr.expr c.in_ok-decls.ensures
    ∙ ap (own_context (objects c.args.names.now)) c.in_ok-expr.ensures
