use Rattle.vl_flow_weight.proofs.Operands.{unary_constant, unary_is}
use Rattle.vl_flow_weight.proofs.operations.unary.Goals as goal

pub returns-then-operand : goal.returns-then-operand
returns-then-operand c ds p x h =
    unary_constant ds p c.args.operator x c.args.operand h c.unary_size-size.result c.fixed.result
    c.unary_size-size.ensures c.if-operand.true c.fixed.ensures

pub returns : goal.returns
returns c ds p x h =
    unary_is ds p c.args.operator x c.args.operand h c.unary_size-size.result c.unary_gates.result
    c.unary_size-size.ensures c.if-operand.false (c.unary_gates.ensures ds p x h)
