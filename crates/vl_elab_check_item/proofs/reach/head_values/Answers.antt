use Rattle.std.proofs.Common.{◌∙◌, ap}
use Rattle.std.specs.Prelude.{◌&&◌}
use Rattle.vl_elab_spec.specs.Items.{has_value}
use Rattle.vl_elab_check_item.specs.TurnParts.{in_turn}
use Rattle.vl_elab_check_item.proofs.Heads.{goes_by}
use Rattle.vl_elab_check_item.proofs.reach.head_values.Goals as goal

pub returns-clause-values : goal.returns-clause-values
returns-clause-values c at same agree =
    let ns = c.args.names.now in
    let head = c.args.head.now in
    goes_by at ns c.args.numbers.now same agree head c.in_ok-values.values
    (c.in_ok-values.ensures.turns
    ∙ ap (λ k. has_value ns head.start && has_value (in_turn head.variable k ns) head.condition) c.in_ok-first.ensures)
    (c.in_ok-values.ensures.further ∙ ap (λ k. has_value (in_turn head.variable k ns) head.next) c.in_ok-first.ensures)
