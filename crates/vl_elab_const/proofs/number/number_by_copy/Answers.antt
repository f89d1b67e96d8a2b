use Rattle.std.proofs.Common.{◌∙◌}
use Rattle.std.specs.Prelude.{[], max}
use Rattle.vl_size.specs.Size.{operand_of, no_names}
use Rattle.vl_elab_const.proofs.number.number_by_copy.Goals as goal

pub returns : goal.returns
returns c =
    c.number_alone.ensures
    ∙ (λ i. let x = operand_of [] no_names (c.in_ok-expr.ensures i) in x.at (max c.args.least x.size) x.sign)
