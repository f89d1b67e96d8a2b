use Rattle.std.proofs.Common.{◌≡◌, sym, ◌∙◌, rules}
use Rattle.std.specs.Prelude.{max}
use Rattle.vl_flow_weight.proofs.Operands.{compared_is, logical_is}
use Rattle.vl_flow_weight.proofs.operations.test_gates.Goals as goal

pub returns-then-is_logical : goal.returns-then-is_logical
returns-then-is_logical c ds p x y h k one varies n =
    let bits : c.max-larger.result ≡ max c.bits_of.result c.bits_of-2.result = search rules in
    logical_is ds p c.args.operator x y c.args.left c.args.right h k varies c.operation-here.result
    c.operation-here.ensures one (sym c.if-is_logical.ensures) c.max-larger.result c.at.result c.own.result
    c.own-then-is_logical.result c.fixed-then-is_logical-2.result c.fixed.result c.fixed-then-is_logical.result
    c.with-operands.result c.with.result
    (bits ∙ (λ i. max (c.bits_of.ensures i) (c.bits_of-2.ensures i))) c.at.ensures c.own.ensures
    c.own-then-is_logical.ensures c.fixed-then-is_logical-2.ensures c.fixed.ensures
    c.fixed-then-is_logical.ensures c.with-operands.ensures c.with.ensures n

pub returns : goal.returns
returns c ds p x y h k one varies n =
    let bits : c.max-larger.result ≡ max c.bits_of.result c.bits_of-2.result = search rules in
    compared_is ds p c.args.operator x y c.args.left c.args.right h k varies c.operation-here.result
    c.operation-here.ensures one (sym c.if-is_logical.ensures) c.max-larger.result c.at-2.result c.with-2.result
    c.with-all.result c.fixed-2.result
    (bits ∙ (λ i. max (c.bits_of.ensures i) (c.bits_of-2.ensures i))) c.with-2.ensures c.with-all.ensures
    c.at-2.ensures c.fixed-2.ensures n
