use Rattle.std.proofs.Common.{◌∙◌}
use Rattle.std.specs.Prelude.{Some, None, if◌then◌else◌}
use Rattle.vl_elab_const.specs.Numbers.{holds, genvar_number}
use Rattle.vl_elab_check_item.proofs.turn.next_turn.Goals as goal

pub returns-clause-next : goal.returns-clause-next
returns-clause-next c =
    let head = c.args.head.now in
    c.in_ok-next.ensures
    ∙ (λ i. let inner = c.in_ok-enter_turn.ensures.ok i in
    if holds inner head.condition then Some (genvar_number inner head.next) else None)
