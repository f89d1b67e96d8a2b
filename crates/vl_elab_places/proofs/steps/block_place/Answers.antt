use Rattle.std.proofs.Common.{◌∙◌}
use Rattle.vl_tree.specs.ItemView.{block}
use Rattle.vl_elab_places.proofs.Judging.{block_judged}
use Rattle.vl_elab_places.proofs.steps.block_place.Goals as goal

pub returns : goal.returns
returns c t at = c.block_pos.ensures ∙ block_judged t at (block c.args.block.now)
