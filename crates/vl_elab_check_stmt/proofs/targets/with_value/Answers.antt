use Rattle.std.proofs.Common.{◌∙◌, ap}
use Rattle.vl_elab_spec.specs.Expressions.{expr_refusals}
use Rattle.vl_elab_spec.specs.Refused.{lower_of, lowest}
use Rattle.vl_elab_check_stmt.proofs.targets.with_value.Goals as goal

pub returns : goal.returns
returns c =
    c.first_of.ensures
    ∙ ap (lower_of c.args.found.fault) (c.in_ok-own.ensures
    ∙ ap (λ k. lowest
    (expr_refusals c.args.names.now c.args.fixed k c.args.value.now)) c.in_ok-context.ensures.value)
