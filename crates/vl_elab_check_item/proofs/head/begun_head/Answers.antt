use Rattle.std.proofs.Common.{◌∙◌, ap}
use Rattle.vl_elab_spec.specs.Refused.{lower_of}
use Rattle.vl_elab_check_item.specs.TurnParts.{begun_fault, idle_fault, turns_fault}
use Rattle.vl_elab_check_item.proofs.head.begun_head.Goals as goal

pub returns-clause-fault : goal.returns-clause-fault
returns-clause-fault c =
    let ns = c.args.names.now in
    let numbers = c.args.numbers.now in
    let head = c.args.head.now in
    let start = c.in_ok-start.start in
    c.first_of.ensures ∙ (λ i. lower_of (c.in_ok-idle.ensures.fault i) (c.in_ok-all.ensures.fault i))
    ∙ (λ i. lower_of (idle_fault ns numbers head start) (turns_fault 4096 (c.in_ok-idle.ensures.names i)
    (c.in_ok-idle.ensures.numbers i) head c.args.pos start))
    ∙ ap (begun_fault ns numbers head c.args.pos) c.in_ok-start.ensures
