use Rattle.std.proofs.Common.{◌∙◌}
use Rattle.vl_elab_check_item.specs.TurnParts.{last_fault}
use Rattle.vl_elab_check_item.proofs.head.last_turn.Goals as goal

pub returns-clause-fault : goal.returns-clause-fault
returns-clause-fault c =
    c.in_ok-found.ensures
    ∙ (λ i. last_fault (c.in_ok-enter_turn.ensures.ok i) (c.in_ok-enter_turn-2.ensures.ok i) c.args.head.now
    c.args.pos)
