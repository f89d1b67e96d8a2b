use Rattle.std.proofs.Common.{ap, sym, ◌∙◌}
use Rattle.fv_bits.specs.Bits.{bit, extended}
use Rattle.vl_size.proofs.RowLemmas.{extended_same}
use Rattle.vl_size.specs.Size.{arithmetic, binary_number, shifted}
use Rattle.vl_elab_const.specs.Operations.{number_operand}
use Rattle.vl_elab_const.proofs.operation.operation.Goals as goal

pub returns-in-Larger : goal.returns-in-Larger
returns-in-Larger c =
    c.arithmetic.ensures.value
    ∙ (λ i. arithmetic c.args.operator c.args.width c.args.signed (c.extended-m.ensures.value i)
    (c.extended-n.ensures.value i))
    ∙ ap (λ k. binary_number k c.args.operator c.args.width c.args.signed (number_operand c.args.x)
    (number_operand c.args.y)) (sym (sym c.way_of.ensures ∙ c.in-Larger.is))

pub returns-in-Left : goal.returns-in-Left
returns-in-Left c =
    c.shifted.ensures.value
    ∙ (λ i. shifted c.args.operator c.args.width c.args.signed (c.extended-m-in-Left.ensures.value i)
    (sym (extended_same c.args.y.width c.args.y.value c.args.y.signed c.args.y.value_fits) i))
    ∙ ap (λ k. binary_number k c.args.operator c.args.width c.args.signed (number_operand c.args.x)
    (number_operand c.args.y)) (sym (sym c.way_of.ensures ∙ c.in-Left.is))

pub returns-in-One : goal.returns-in-One
returns-in-One c =
    c.extended.ensures.value
    ∙ ap (extended 1 c.args.width c.args.signed) (c.bit.ensures ∙ ap bit c.tested.ensures)
    ∙ ap (λ k. binary_number k c.args.operator c.args.width c.args.signed (number_operand c.args.x)
    (number_operand c.args.y)) (sym (sym c.way_of.ensures ∙ c.in-One.is))
