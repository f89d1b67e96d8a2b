use Rattle.std.proofs.Common.{sym}
use Rattle.vl_flow_weight.proofs.Operands.{unary_kept, unary_reduced}
use Rattle.vl_flow_weight.proofs.operations.unary_gates.Goals as goal

pub returns-then-keeps_size : goal.returns-then-keeps_size
returns-then-keeps_size c ds p x h varies n =
    unary_kept ds p c.args.operator x c.args.operand h c.unary_operation.result c.with-all.result
    c.unary_operation.ensures c.with-all.ensures (sym c.if-keeps_size.ensures) varies n

pub returns : goal.returns
returns c ds p x h varies n =
    unary_reduced ds p c.args.operator x c.args.operand h c.unary_operation.result c.with-all.result
    c.unary_operation.ensures c.with-all.ensures (sym c.if-keeps_size.ensures) varies c.fixed.result
    c.bits_of.result c.at.result c.bits_of.ensures c.at.ensures c.fixed.ensures n
