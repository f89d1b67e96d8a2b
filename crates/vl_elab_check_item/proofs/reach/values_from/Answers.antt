use Rattle.std.proofs.Common.{◌∙◌, ap}
use Rattle.std.specs.Prelude.{◌&&◌}
use Rattle.vl_elab_spec.specs.Items.{has_value}
use Rattle.vl_elab_check_item.proofs.reach.values_from.Goals as goal

pub returns-clause-turns : goal.returns-clause-turns
returns-clause-turns c =
    let head = c.args.head.now in
    c.in_ok-values.ensures.turns
    ∙ (λ i. c.in_ok-start.ensures i && has_value (c.in_ok-enter_turn.ensures.ok i) head.condition)

pub returns-clause-further : goal.returns-clause-further
returns-clause-further c =
    c.in_ok-values.ensures.further ∙ ap (λ ns. has_value ns c.args.head.now.next) c.in_ok-enter_turn.ensures.ok
