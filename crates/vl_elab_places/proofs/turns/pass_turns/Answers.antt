use Rattle.std.proofs.Common.{◌≡◌, ◌<◌, ◌-◌, ◌∙◌, ap, refl, arith}
use Rattle.std.specs.Prelude.{Some, None, if◌then◌else◌}
use Rattle.std.proofs.lemmas.Grind.{common_steps}
use Rattle.vl_elab_const.specs.Numbers.{holds, genvar_number}
use Rattle.vl_elab_check_item.specs.TurnParts.{in_turn}
use Rattle.vl_elab_places.specs.Passing.{expr_passed, turns_passed}
use Rattle.vl_elab_places.proofs.Going.{turns_gone, turns_on, turns_stop}
use Rattle.vl_elab_places.proofs.turns.pass_turns.Goals as goal

pub loop-left-init : goal.loop-left-init
loop-left-init c = record { numbers = refl; behind = refl }

pub loop-left-preserved : goal.loop-left-preserved
loop-left-preserved c =
    let head = c.args.head.now in
    let ns = c.args.numbers.now in
    let value = c.loop-left.value in
    let same = c.loop-left.invariant.numbers in
    let positive : 0 < c.loop-left.left = grind (arith, common_steps) in
    record {
      numbers = c.in_ok-next.ensures.numbers ∙ same;
      behind =
          ap (turns_passed (c.loop-left.left - 1) ns head c.in-Some.next)
          (c.pass_expr-at-in-Some.ensures ∙ ap (expr_passed head.next) c.pass_expr-at.ensures)
          ∙ turns_on ns head c.loop-left.left value c.in-Some.next c.in_ok-next.next c.loop-left.at positive
          (c.in_ok-next.ensures.next
          ∙ (λ i. let inner = in_turn head.variable value (same i) in
          if holds inner head.condition then Some (genvar_number inner head.next) else None))
          c.in-Some.is
          ∙ c.loop-left.invariant.behind;
    }

pub returns-in-None-clause-behind : goal.returns-in-None-clause-behind
returns-in-None-clause-behind c =
    let head = c.args.head.now in
    let ns = c.args.numbers.now in
    let value = c.loop-left.value in
    let same = c.loop-left.invariant.numbers in
    let positive : 0 < c.loop-left.left = grind (arith, common_steps) in
    c.pass_expr-at.ensures
    ∙ turns_stop ns head c.loop-left.left value c.in_ok-next.next c.loop-left.at positive
    (c.in_ok-next.ensures.next
    ∙ (λ i. let inner = in_turn head.variable value (same i) in
    if holds inner head.condition then Some (genvar_number inner head.next) else None))
    c.in-None.is
    ∙ c.loop-left.invariant.behind

pub returns-clause-behind : goal.returns-clause-behind
returns-clause-behind c =
    let none : c.loop-left.left ≡ 0 = grind (arith, common_steps) in
    c.pass_expr.ensures
    ∙ turns_gone c.args.numbers.now c.args.head.now c.loop-left.left c.loop-left.value c.loop-left.at none
    ∙ c.loop-left.invariant.behind
