use Rattle.std.proofs.Common.{sym, ◌∙◌}
use Rattle.vl_flow_weight.proofs.Operands.{larger_is, left_is}
use Rattle.vl_flow_weight.proofs.operations.operated.Goals as goal

pub returns-in-Larger : goal.returns-in-Larger
returns-in-Larger c ds p x y h k varies n =
    larger_is ds p c.args.operator x y c.args.left c.args.right h k varies c.operation.result c.operation.ensures
    (sym c.way_of.ensures ∙ c.in-Larger.is) c.with.result c.with-in-Larger.result
    c.with.ensures c.with-in-Larger.ensures n

pub returns-in-Left : goal.returns-in-Left
returns-in-Left c ds p x y h k varies n =
    left_is ds p c.args.operator x y c.args.left c.args.right h k varies c.operation-in-Left.result
    c.operation-in-Left.ensures (sym c.way_of.ensures ∙ c.in-Left.is) c.own.result c.fixed.result
    c.with-in-Left.result c.with-in-Left-2.result c.own.ensures c.fixed.ensures c.with-in-Left.ensures
    c.with-in-Left-2.ensures n

pub returns-in-One : goal.returns-in-One
returns-in-One c ds p x y h k varies n =
    c.test_gates.ensures ds p x y h k (sym c.way_of.ensures ∙ c.in-One.is) varies n
