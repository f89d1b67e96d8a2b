use Rattle.std.proofs.Common.{◌*◌, ◌+◌}
use Rattle.vl_tree.specs.Item.{depth, block_depth}
use Rattle.vl_tree.specs.ItemView.{block}
use Rattle.vl_elab_params.proofs.names.+labels.Given as goal

abbrev pub decreases-pass_inner_labels : goal.decreases-pass_inner_labels
decreases-pass_inner_labels l = 4 * depth l.item.now

abbrev pub decreases-pass_labels : goal.decreases-pass_labels
decreases-pass_labels l = 4 * block_depth (block l.block.now) + 1
