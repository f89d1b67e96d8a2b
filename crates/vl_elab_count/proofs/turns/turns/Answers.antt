use Rattle.std.proofs.Common.{◌≡◌, ◌<◌, ◌+◌, ◌∙◌, ap, sym, refl, arith}
use Rattle.std.specs.Prelude.{Some, None, if◌then◌else◌}
use Rattle.std.proofs.lemmas.Grind.{common_steps}
use Rattle.vl_mean.specs.ConstantFaults.{capped}
use Rattle.vl_mean.specs.FlatLaw.{nodes}
use Rattle.vl_elab_const.specs.Numbers.{holds, genvar_number}
use Rattle.vl_elab_check_item.specs.TurnParts.{in_turn}
use Rattle.vl_elab_count.specs.Counts.{turn_nodes}
use Rattle.vl_elab_count.proofs.TotalsSums.{turns_on, turns_stop, last_turn, once, none_yet}
use Rattle.vl_elab_count.proofs.turns.turns.Goals as goal

pub loop-left-init : goal.loop-left-init
loop-left-init c = record {
  numbers = refl;
  few = omega arith;
  count = none_yet (turn_nodes 4096 c.args.numbers.now c.args.head.now c.args.start);
}

pub loop-left-preserved : goal.loop-left-preserved
loop-left-preserved c =
    let head = c.args.head.now in
    let ns = c.args.numbers.now in
    let value = c.loop-left.value in
    let same = c.loop-left.invariant.numbers in
    let positive : 0 < c.loop-left.left = grind (arith, common_steps) in
    record {
      numbers = c.in_ok-next.ensures.numbers ∙ same;
      few = omega (arith, c.loop-left.invariant.few);
      count =
          turns_on ns head c.loop-left.left value c.loop-left.total c.expr_nodes-condition.result c.plus-total.result
          (capped (turn_nodes 4096 ns head c.args.start)) c.in_ok-next.next positive c.expr_nodes-condition.ensures
          c.plus-total.ensures
          (c.in_ok-next.ensures.next
          ∙ (λ i. let inner = in_turn head.variable value (same i) in
          if holds inner head.condition then Some (genvar_number inner head.next) else None))
          c.loop-left.invariant.count c.in-Some.next c.expr_nodes-step.result c.plus-total-in-Some.result c.in-Some.is
          c.expr_nodes-step.ensures
          c.plus-total-in-Some.ensures;
    }

pub returns-in-None-clause-count : goal.returns-in-None-clause-count
returns-in-None-clause-count c =
    let head = c.args.head.now in
    let ns = c.args.numbers.now in
    let value = c.loop-left.value in
    let same = c.loop-left.invariant.numbers in
    let positive : 0 < c.loop-left.left = grind (arith, common_steps) in
    sym (once c.loop-left.total c.expr_nodes-condition.result c.plus-total.result c.plus-total.ensures)
    ∙ turns_stop ns head c.loop-left.left value c.loop-left.total c.expr_nodes-condition.result c.plus-total.result
    (capped (turn_nodes 4096 ns head c.args.start)) c.in_ok-next.next positive c.expr_nodes-condition.ensures
    c.plus-total.ensures
    (c.in_ok-next.ensures.next
    ∙ (λ i. let inner = in_turn head.variable value (same i) in
    if holds inner head.condition then Some (genvar_number inner head.next) else None))
    c.loop-left.invariant.count c.in-None.is

pub returns-clause-count : goal.returns-clause-count
returns-clause-count c =
    let head = c.args.head.now in
    let ns = c.args.numbers.now in
    let none : c.loop-left.left ≡ 0 = grind (arith, common_steps) in
    last_turn c.loop-left.total (nodes head.condition) c.expr_nodes-condition.result c.plus.result
    c.expr_nodes-condition.ensures c.plus.ensures
    ∙ ap (λ k. capped (c.loop-left.total + turn_nodes k ns head c.loop-left.value)) (sym none)
    ∙ c.loop-left.invariant.count
