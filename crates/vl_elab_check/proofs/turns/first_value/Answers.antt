use Rattle.std.proofs.Common.{◌∙◌}
use Rattle.vl_mean.specs.Constants.{constant_operand}
use Rattle.vl_mean.specs.Walk.{genvar_value}
use Rattle.vl_elab_check.proofs.turns.first_value.Goals as goal

pub returns : goal.returns
returns c ss h =
    c.in_ok-genvar_value.ensures
    ∙ (λ i. genvar_value (constant_operand (λ text. h text i) c.args.head.now.start))
