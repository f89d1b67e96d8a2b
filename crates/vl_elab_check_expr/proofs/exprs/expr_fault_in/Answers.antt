use Rattle.std.proofs.Common.{◌∙◌, ap}
use Rattle.vl_size.specs.Divisors.{zero_divisor}
use Rattle.vl_elab_spec.specs.Expressions.{divided_by_zero, known, refusals}
use Rattle.vl_elab_spec.specs.Meanings.{objects}
use Rattle.vl_elab_spec.specs.Refused.{lowest}
use Rattle.vl_elab_check_expr.proofs.Lowest.{lowest_two}
use Rattle.vl_elab_check_expr.proofs.exprs.expr_fault_in.Goals as goal

pub returns : goal.returns
returns c =
    let ns = c.args.names.now in
    let e = c.args.expr.now in
    c.first_of.ensures
    ∙ lowest_two (refusals ns c.args.fixed e) (divided_by_zero (zero_divisor (objects ns) c.args.context
    (known ns e)))
    _ _ c.in_ok-own.ensures (c.divided_by_zero.ensures ∙ ap (λ p. lowest (divided_by_zero p)) c.in_ok-place.ensures)
