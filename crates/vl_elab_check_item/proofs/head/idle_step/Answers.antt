use Rattle.std.proofs.Common.{◌∙◌, ap}
use Rattle.vl_elab_spec.specs.Items.{genvar_refusals}
use Rattle.vl_elab_spec.specs.Refused.{lowest}
use Rattle.vl_elab_check_item.proofs.head.idle_step.Goals as goal

pub returns-clause-fault : goal.returns-clause-fault
returns-clause-fault c =
    c.in_ok-found.ensures ∙ ap (λ ns. lowest (genvar_refusals ns c.args.head.now.next)) c.in_ok-enter_turn.ensures.ok
