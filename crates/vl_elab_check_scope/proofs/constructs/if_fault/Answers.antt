use Rattle.std.proofs.Common.{◌∙◌, ap, true}
use Rattle.vl_elab_spec.specs.Expressions.{own_refusals}
use Rattle.vl_elab_spec.specs.Items.{labels_twice, placed_labels}
use Rattle.vl_elab_spec.specs.Refused.{lowest}
use Rattle.vl_elab_check_expr.proofs.Lowest.{lowest_two}
use Rattle.vl_elab_scope.proofs.Exprs.{same_own}
use Rattle.vl_elab_check_scope.proofs.constructs.if_fault.Goals as goal

pub returns : goal.returns
returns c known before same names =
    let condition = c.args.condition.now in
    c.first_of.ensures
    ∙ lowest_two (labels_twice before (placed_labels c.args.item.now)) (own_refusals known true condition) _ _
    (c.in_ok-labels.ensures before names)
    (c.in_ok-own.ensures ∙ ap lowest (same_own c.args.names.now known same true condition))
