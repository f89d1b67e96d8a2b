use Rattle.std.proofs.Common.{◌∙◌, ap}
use Rattle.std.specs.Prelude.{[]}
use Rattle.fv_bits.specs.Bits.{as_int}
use Rattle.vl_size.specs.Size.{operand_of, index_of, no_names}
use Rattle.vl_elab_const.proofs.number.own_bound.Goals as goal

pub returns : goal.returns
returns c =
    (λ i. as_int (c.own_alone.ensures.width i) (c.own_alone.ensures.signed i) (c.own_alone.ensures.number i))
    ∙ ap (λ e. index_of (operand_of [] no_names e)) c.in_ok-expr.ensures
