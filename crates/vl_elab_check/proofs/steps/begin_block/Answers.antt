use Rattle.std.proofs.Common.{refl}
use Rattle.vl_tree.specs.ItemView.{block}
use Rattle.vl_mean.specs.Walk.{block_step}
use Rattle.vl_elab_check.proofs.steps.begin_block.Goals as goal

pub returns-clause-walked : goal.returns-clause-walked
returns-clause-walked c ms t at known =
    c.weighed.ensures ms (block_step at (block c.args.block.now)) t refl refl refl (c.block_place.ensures t at) known
