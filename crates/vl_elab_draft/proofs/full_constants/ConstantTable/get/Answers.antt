use Rattle.std.proofs.Common.{◌∙◌, ap}
use Rattle.vl_mean.specs.Constants.{constant_of}
use Rattle.vl_elab_draft.proofs.full_constants.ConstantTable.get.Goals as goal

pub returns : goal.returns
returns c = c.constant_among.ensures ∙ ap (λ cs. constant_of cs c.args.name.now) c.self.view_is
