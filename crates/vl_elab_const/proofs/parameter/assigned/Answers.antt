use Rattle.std.proofs.Common.{◌∙◌}
use Rattle.std.specs.Prelude.{[], max}
use Rattle.vl_size.specs.Size.{operand_of, no_names}
use Rattle.vl_mean.specs.Constants.{cut_to}
use Rattle.vl_elab_const.proofs.parameter.assigned.Goals as goal

pub returns : goal.returns
returns c =
    let bits = c.in_ok-bits.ensures.value in
    let x = operand_of [] no_names c.args.value.now in
    c.cut_to.ensures ∙ (λ i. cut_to c.in_ok-bits.bits c.args.signed (c.number_alone-number.ensures i))
    ∙ (λ i. cut_to (bits i) c.args.signed (x.at (max (bits i) x.size) x.sign))
