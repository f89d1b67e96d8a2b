use Rattle.vl_elab_flatten_laws.proofs.Walked.{walk_open}
use Rattle.vl_elab_flatten_laws.proofs.opens_law.scopes_can_be_opened.Goals as goal

pub returns : goal.returns
returns c = walk_open
