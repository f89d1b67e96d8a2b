use Rattle.std.proofs.Common.{◌∙◌}
use Rattle.vl_elab_places.proofs.TurnPlaces.{loop_passes}
use Rattle.vl_elab_places.proofs.turns.pass_loop.Goals as goal

pub returns-clause-behind : goal.returns-clause-behind
returns-clause-behind c at same agree =
    c.in_ok-behind.ensures.behind
    ∙ loop_passes c.args.numbers.now at agree c.args.head.now c.in_ok-values.values
    (c.in_ok-values.ensures.values at same agree) c.args.start
