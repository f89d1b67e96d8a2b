use Rattle.std.proofs.Common.{◌∙◌, ap}
use Rattle.std.specs.Prelude.{is_some}
use Rattle.vl_elab_draft.proofs.Settling.{copied_some}
use Rattle.vl_elab_draft.proofs.exprs.is_constant.Goals as goal

pub returns : goal.returns
returns c = c.is_some.ensures ∙ copied_some c.constant.result ∙ ap is_some c.constant.ensures
