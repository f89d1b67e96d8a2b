use Rattle.std.proofs.Common.{◌≡◌, ◌∙◌}
use Rattle.std.specs.Prelude.{Some, None, is_none, ◌&&◌, if◌then◌else◌}
use Rattle.std.proofs.lemmas.Result.{IfOk-weaker}
use Rattle.vl_elab_spec.specs.Items.{genvar_refusals, has_value}
use Rattle.vl_elab_spec.specs.Refused.{lower_of, lowest}
use Rattle.vl_elab_const.specs.Numbers.{genvar_number}
use Rattle.vl_elab_check_item.specs.TurnParts.{leads_on, turn_fault}
use Rattle.vl_elab_check_item.proofs.Heads.{turn_begun, turn_ended, next_begun, next_ended}
use Rattle.vl_elab_check_item.proofs.head.judge_turn.Goals as goal

pub returns-then-begins-clause-fault : goal.returns-then-begins-clause-fault
returns-then-begins-clause-fault c =
    let ns = c.args.names.now in
    let numbers = c.args.numbers.now in
    let head = c.args.head.now in
    let own = c.in_ok-own.own in
    IfOk-weaker c.begun.result (λ t. t.fault ≡ lower_of own (lowest (genvar_refusals ns head.next)))
    (λ t. t.fault ≡ turn_fault ns numbers head)
    (λ t h. h ∙ turn_begun ns numbers head own c.in_ok-begins.begins c.in_ok-own.ensures c.in_ok-begins.ensures
    c.if-begins.true) c.begun.ensures.fault

pub returns-then-begins-clause-next : goal.returns-then-begins-clause-next
returns-then-begins-clause-next c =
    let ns = c.args.names.now in
    let numbers = c.args.numbers.now in
    let head = c.args.head.now in
    let next = genvar_number numbers head.next in
    IfOk-weaker c.begun.result
    (λ t. t.next ≡ (if is_none (lowest (genvar_refusals ns head.next)) && has_value ns head.next then Some next else None))
    (λ t. t.next ≡ (if leads_on ns numbers head then Some next else None))
    (λ t h. h ∙ next_begun ns numbers head c.in_ok-own.own c.in_ok-begins.begins c.in_ok-own.ensures
    c.in_ok-begins.ensures next c.if-begins.true) c.begun.ensures.next

pub returns-else-begins-clause-fault : goal.returns-else-begins-clause-fault
returns-else-begins-clause-fault c =
    turn_ended c.args.names.now c.args.numbers.now c.args.head.now c.in_ok-own.own c.in_ok-begins.begins
    c.in_ok-own.ensures c.in_ok-begins.ensures c.if-begins.false

pub returns-else-begins-clause-next : goal.returns-else-begins-clause-next
returns-else-begins-clause-next c =
    let numbers = c.args.numbers.now in
    let head = c.args.head.now in
    next_ended c.args.names.now numbers head c.in_ok-own.own c.in_ok-begins.begins c.in_ok-own.ensures
    c.in_ok-begins.ensures (genvar_number numbers head.next) c.if-begins.false
