use Rattle.std.proofs.Common.{◌≡◌, ◌<◌, ◌∙◌, ap, sym, arith, true}
use Rattle.std.specs.Prelude.{Some, None, if◌then◌else◌}
use Rattle.std.proofs.lemmas.Grind.{common_steps}
use Rattle.vl_elab_spec.specs.Refused.{lower_of}
use Rattle.vl_elab_const.specs.Numbers.{genvar_number}
use Rattle.vl_elab_check_item.specs.TurnParts.{in_turn, leads_on, turn_fault, turns_fault}
use Rattle.vl_elab_check_item.proofs.Heads.{turns_on, turns_stop}
use Rattle.vl_elab_check_item.proofs.head.turns.Goals as goal

pub loop-left-preserved : goal.loop-left-preserved
loop-left-preserved c =
    let head = c.args.head.now in
    let value = c.loop-left.value in
    let same_names = c.loop-left.invariant.names in
    let same_numbers = c.loop-left.invariant.numbers in
    let positive : 0 < c.loop-left.left = grind (arith, common_steps) in
    record {
      names = c.in_ok-found.ensures.names ∙ same_names;
      numbers = c.in_ok-found.ensures.numbers ∙ same_numbers;
      few = omega (arith, c.loop-left.invariant.few);
      fault = turns_on c.args.names.now c.args.numbers.now head c.args.pos c.loop-left.left value c.in-Some.next
          c.loop-left.fault c.first_of-fault.result c.in_ok-found.found.fault
          (turns_fault 4096 c.args.names.now c.args.numbers.now head c.args.pos c.args.start) c.in_ok-found.found.next
          positive
          (c.in_ok-found.ensures.fault
          ∙ (λ i. turn_fault (in_turn head.variable value (same_names i))
          (in_turn head.variable value (same_numbers i)) head))
          c.first_of-fault.ensures
          (c.in_ok-found.ensures.next
          ∙ (λ i. let inner = in_turn head.variable value (same_numbers i) in
          if leads_on (in_turn head.variable value (same_names i)) inner head
          then Some (genvar_number inner head.next) else None)) c.in-Some.is
          c.loop-left.invariant.fault;
    }

pub returns-in-None-clause-fault : goal.returns-in-None-clause-fault
returns-in-None-clause-fault c =
    let head = c.args.head.now in
    let value = c.loop-left.value in
    let same_names = c.loop-left.invariant.names in
    let same_numbers = c.loop-left.invariant.numbers in
    let positive : 0 < c.loop-left.left = grind (arith, common_steps) in
    turns_stop c.args.names.now c.args.numbers.now head c.args.pos c.loop-left.left value c.loop-left.fault
    c.first_of-fault.result c.in_ok-found.found.fault
    (turns_fault 4096 c.args.names.now c.args.numbers.now head c.args.pos c.args.start) c.in_ok-found.found.next
    positive
    (c.in_ok-found.ensures.fault
    ∙ (λ i. turn_fault (in_turn head.variable value (same_names i))
    (in_turn head.variable value (same_numbers i)) head)) c.first_of-fault.ensures
    (c.in_ok-found.ensures.next
    ∙ (λ i. let inner = in_turn head.variable value (same_numbers i) in
    if leads_on (in_turn head.variable value (same_names i)) inner head
    then Some (genvar_number inner head.next) else None)) c.in-None.is
    c.loop-left.invariant.fault

pub returns-clause-fault : goal.returns-clause-fault
returns-clause-fault c =
    let head = c.args.head.now in
    let value = c.loop-left.value in
    let none : c.loop-left.left ≡ 0 = grind (arith, common_steps) in
    c.first_of.ensures ∙ (λ i. lower_of c.loop-left.fault (c.in_ok-last.ensures.fault i))
    ∙ (λ i. lower_of c.loop-left.fault (turns_fault 0 (c.loop-left.invariant.names i) (c.loop-left.invariant.numbers i)
    head c.args.pos value))
    ∙ ap (λ k. lower_of c.loop-left.fault (turns_fault k c.args.names.now c.args.numbers.now head c.args.pos value))
    (sym none) ∙ c.loop-left.invariant.fault
