use Rattle.std.proofs.Common.{◌∙◌}
use Rattle.std.specs.Prelude.{if◌then◌else◌}
use Rattle.vl_elab_check_item.specs.TurnParts.{GoesBy}
use Rattle.vl_elab_check.proofs.turns.turn_limit.Goals as goal

pub returns-clause-limit : goal.returns-clause-limit
returns-clause-limit c at path h =
    let by : GoesBy c.in_ok-values.values c.args.head.now at =
    c.in_ok-values.ensures.values at h.stands.alike h.stands.numbers in
    c.limit_by.ensures ∙ (λ i. if by.turns i then (if by.further i then 4096 else 1) else 0)
