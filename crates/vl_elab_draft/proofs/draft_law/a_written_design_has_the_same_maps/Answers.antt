use Rattle.vl_elab_draft.proofs.Drawing.{same_maps}
use Rattle.vl_elab_draft.proofs.draft_law.a_written_design_has_the_same_maps.Goals as goal

pub returns : goal.returns
returns c = same_maps
