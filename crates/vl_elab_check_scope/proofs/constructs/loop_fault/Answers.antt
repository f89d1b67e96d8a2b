use Rattle.std.proofs.Common.{◌∙◌}
use Rattle.vl_elab_spec.specs.Items.{labels_twice, placed_labels, head_refusals}
use Rattle.vl_elab_spec.specs.Meanings.{meaning_in, meanings_at}
use Rattle.vl_elab_check_expr.proofs.Lowest.{lowest_two}
use Rattle.vl_elab_check_scope.proofs.constructs.loop_fault.Goals as goal

pub returns-clause-fault : goal.returns-clause-fault
returns-clause-fault c at same numbers names =
    let head = c.args.head.now in
    c.first_of.ensures
    ∙ lowest_two (labels_twice at.earlier (placed_labels c.args.item.now))
    (head_refusals at c.args.pos head (meaning_in (meanings_at at) head.variable)) _ _
    (c.in_ok-labels.ensures at.earlier names) (c.in_ok-own.ensures.fault at same numbers)
