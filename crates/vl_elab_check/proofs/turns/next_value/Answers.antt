use Rattle.std.proofs.Common.{◌∙◌}
use Rattle.vl_elab_check.proofs.Places.{turn_value}
use Rattle.vl_elab_check.proofs.turns.next_value.Goals as goal

pub returns-clause-next : goal.returns-clause-next
returns-clause-next c at path h =
    c.in_ok-next_turn.ensures.next ∙ turn_value c.args.inside.now path at h c.args.head.now c.args.value
