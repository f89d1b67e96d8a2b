use Rattle.vl_flow_weight.proofs.Operands.{choice_is}
use Rattle.vl_flow_weight.proofs.operations.choice_gates.Goals as goal

pub returns : goal.returns
returns c ds p q x y g h k varies n =
    choice_is ds p q x y c.args.condition c.args.first c.args.second g h k varies c.own.result c.fixed.result
    c.with-parts.result c.with-inner.result c.per_bit.result c.with.result c.own.ensures c.fixed.ensures
    c.with-parts.ensures c.with-inner.ensures c.per_bit.ensures c.with.ensures n
