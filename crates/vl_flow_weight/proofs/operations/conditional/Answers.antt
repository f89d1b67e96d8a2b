use Rattle.std.proofs.Common.{ap, ◌∙◌}
use Rattle.std.specs.Prelude.{◌&&◌}
use Rattle.vl_flow_weight.proofs.Operands.{conditional_constant, conditional_is}
use Rattle.vl_flow_weight.proofs.operations.conditional.Goals as goal

pub returns-then-is_constant : goal.returns-then-is_constant
returns-then-is_constant c ds p q x y g h k =
    conditional_constant ds p q x y c.args.condition c.args.first c.args.second g h k c.both_sizes-size.result
    c.both-is_constant.result
    c.fixed.result
    (c.both-is_constant.ensures ∙ ap (λ b. c.args.condition.is_constant && b) c.both-alternatives.ensures)
    c.both_sizes-size.ensures c.if-is_constant.true c.fixed.ensures

pub returns : goal.returns
returns c ds p q x y g h k =
    conditional_is ds p q x y c.args.condition c.args.first c.args.second g h k c.both_sizes-size.result
    c.both-is_constant.result
    c.choice_gates.result
    (c.both-is_constant.ensures ∙ ap (λ b. c.args.condition.is_constant && b) c.both-alternatives.ensures)
    c.both_sizes-size.ensures c.if-is_constant.false
    (c.choice_gates.ensures ds p q x y g h k)
