use Rattle.std.proofs.Common.{◌/◌, ◌||◌, ◌∙◌, length, arith, ap}
use Rattle.vl_flow_order.specs.Sets.{some_has}
use Rattle.vl_flow_order.proofs.Halves.{no_row, some_split, union_one}
use Rattle.vl_flow_order.proofs.union.+union_of.Goals as goal

pub returns-then-sets-eq0 : goal.returns-then-sets-eq0
returns-then-sets-eq0 t c x i =
    c.none.ensures x i ∙ ap (λ ys. some_has ys x i) (no_row c.args.sets.now c.if-sets-eq0.true)

pub returns-then-sets-eq1 : goal.returns-then-sets-eq1
returns-then-sets-eq1 t c x i =
    union_one c.args.sets.now c.index-sets-0.result c.none-then-sets-eq1.result c.in_ok-with.field-0
    c.if-sets-eq1.true c.index-sets-0.is c.none-then-sets-eq1.ensures c.in_ok-with.ensures x i

pub returns : goal.returns
returns t c x i =
    let sets = c.args.sets.now in
    c.in_ok-with-2.ensures x i ∙ (λ j. c.in_ok-first.ensures x i j || c.in_ok-second.ensures x i j)
    ∙ some_split sets (length sets / 2) x i (omega arith)
