use Rattle.std.proofs.Common.{◌∙◌}
use Rattle.std.specs.Prelude.{Some, None, if◌then◌else◌}
use Rattle.vl_elab_const.specs.Numbers.{genvar_number}
use Rattle.vl_elab_check_item.specs.TurnParts.{leads_on, turn_fault}
use Rattle.vl_elab_check_item.proofs.head.turn.Goals as goal

pub returns-clause-fault : goal.returns-clause-fault
returns-clause-fault c =
    c.in_ok-found.ensures.fault
    ∙ (λ i. turn_fault (c.in_ok-enter_turn.ensures.ok i) (c.in_ok-enter_turn-2.ensures.ok i) c.args.head.now)

pub returns-clause-next : goal.returns-clause-next
returns-clause-next c =
    let head = c.args.head.now in
    c.in_ok-found.ensures.next
    ∙ (λ i. let inner = c.in_ok-enter_turn-2.ensures.ok i in
    if leads_on (c.in_ok-enter_turn.ensures.ok i) inner head then Some (genvar_number inner head.next) else None)
