use Rattle.std.proofs.Common.{◌∙◌}
use Rattle.vl_elab_flatten.proofs.Values.{turn_value}
use Rattle.vl_elab_flatten.proofs.turns.next_value.Goals as goal

pub returns-clause-next : goal.returns-clause-next
returns-clause-next c ss h =
    c.in_ok-next_turn.ensures.next ∙ turn_value c.args.numbers.now ss h c.args.head.now c.args.value
