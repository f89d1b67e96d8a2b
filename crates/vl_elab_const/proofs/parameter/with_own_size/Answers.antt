use Rattle.std.proofs.Common.{◌∙◌, ap}
use Rattle.std.specs.Prelude.{◌||◌}
use Rattle.vl_mean.specs.Constants.{cut_to}
use Rattle.vl_elab_const.proofs.parameter.with_own_size.Goals as goal

pub returns : goal.returns
returns c =
    c.cut_to.ensures
    ∙ (λ i. cut_to (c.own_alone-own.ensures.width i)
    ((c.is_signed-signed.ensures ∙ ap (λ b. c.args.signed || b) c.own_alone-own.ensures.signed) i)
    (c.own_alone-own.ensures.number i))
