use Rattle.std.proofs.Common.{◌∙◌}
use Rattle.std.specs.Prelude.{◌++◌, true}
use Rattle.vl_elab_spec.specs.Expressions.{own_refusals}
use Rattle.vl_elab_spec.specs.Items.{genvar_refusals}
use Rattle.vl_elab_spec.specs.Refused.{lowest}
use Rattle.vl_elab_check_item.proofs.head.unstarted_head.Goals as goal

pub returns-clause-fault : goal.returns-clause-fault
returns-clause-fault c =
    let head = c.args.head.now in
    c.in_ok-found.ensures
    ∙ (λ i. let inside = c.in_ok-enter_unstarted.ensures.ok i in
    lowest (own_refusals inside true head.condition ++ genvar_refusals inside head.next))
