use Rattle.vl_flow_weight.proofs.Operands.{binary_constant, binary_is}
use Rattle.vl_flow_weight.proofs.operations.binary.Goals as goal

pub returns-then-is_constant : goal.returns-then-is_constant
returns-then-is_constant c ds p x y h k =
    binary_constant ds p c.args.operator x y c.args.left c.args.right h k c.operation_size-size.result
    c.both-is_constant.result
    c.fixed.result c.both-is_constant.ensures c.operation_size-size.ensures c.if-is_constant.true c.fixed.ensures

pub returns : goal.returns
returns c ds p x y h k =
    binary_is ds p c.args.operator x y c.args.left c.args.right h k c.operation_size-size.result
    c.both-is_constant.result
    c.operated.result c.both-is_constant.ensures c.operation_size-size.ensures
    c.if-is_constant.false (c.operated.ensures ds p x y h k)
