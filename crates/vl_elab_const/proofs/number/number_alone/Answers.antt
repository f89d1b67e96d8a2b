use Rattle.std.proofs.Common.{◌∙◌}
use Rattle.std.specs.Prelude.{max}
use Rattle.vl_size.specs.Size.{operand_of}
use Rattle.vl_elab_const.proofs.number.number_alone.Goals as goal

pub returns : goal.returns
returns c =
    c.number_at.ensures
    ∙ (λ i. let x = operand_of (c.no_names.ensures.decls i) (c.no_names.ensures.numbers i) c.args.expr.now in
    x.at (max c.args.least x.size) x.sign)
