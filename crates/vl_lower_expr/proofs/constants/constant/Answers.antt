use Rattle.std.proofs.Common.{◌∙◌}
use Rattle.fv_bits.specs.Bits.{as_int}
use Rattle.vl_size.specs.Size.{value}
use Rattle.vl_lower_expr.proofs.constants.constant.Goals as goal

pub returns : goal.returns
returns c = λ v.
    let w = c.own_size-width.ensures.value in
    let s = c.sign_of-signed.ensures in
    let ds = c.args.names.decls.now in
    λ i. as_int (w i) (s i)
    ((c.constant_value-number.ensures.value ds v ∙ (λ j. value ds v (w j) (s j) c.args.expr.now)) i)
