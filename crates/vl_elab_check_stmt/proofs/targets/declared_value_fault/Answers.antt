use Rattle.std.proofs.Common.{ap}
use Rattle.vl_tree.specs.Expr.{whole}
use Rattle.vl_tree.specs.Lval.{named}
use Rattle.vl_elab_spec.specs.Expressions.{expr_refusals}
use Rattle.vl_elab_spec.specs.Refused.{lowest}
use Rattle.vl_elab_spec.specs.Statements.{assigned_in, target_refusals, target_width}
use Rattle.vl_elab_check_expr.proofs.Lowest.{lowest_two, ok_same}
use Rattle.vl_elab_check_stmt.proofs.targets.declared_value_fault.Goals as goal

pub returns : goal.returns
returns c =
    let ns = c.args.names.now in
    let l = named c.args.pos c.args.text.now whole in
    let e = c.args.value.now in
    let how = c.args.how in
    ok_same c.with_value.result _ _
    (lowest_two (target_refusals ns how.continuous how.fixed_target l)
    (expr_refusals ns how.fixed_value (assigned_in ns (target_width ns l) e) e) _ _ c.in_ok-found.ensures.fault
    (ap (λ w. lowest (expr_refusals ns how.fixed_value (assigned_in ns w e) e)) c.in_ok-found.ensures.width))
    c.with_value.ensures
