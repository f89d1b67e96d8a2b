use Rattle.std.proofs.Common.{◌∙◌}
use Rattle.vl_elab_check_item.specs.TurnParts.{begins}
use Rattle.vl_elab_check_item.proofs.head.begins_at.Goals as goal

pub returns-clause-begins : goal.returns-clause-begins
returns-clause-begins c =
    c.in_ok-begins.ensures
    ∙ (λ i. begins (c.in_ok-enter_turn.ensures.ok i) (c.in_ok-enter_turn-2.ensures.ok i) c.args.head.now)
