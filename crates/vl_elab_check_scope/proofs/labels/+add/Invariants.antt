use Rattle.std.proofs.Common.{◌*◌, ◌+◌}
use Rattle.vl_tree.specs.Item.{depth, block_depth}
use Rattle.vl_tree.specs.ItemView.{block}
use Rattle.vl_elab_check_scope.proofs.labels.+add.Given as goal

abbrev pub decreases-add_item_labels : goal.decreases-add_item_labels
decreases-add_item_labels l = 4 * depth l.item.now

abbrev pub decreases-add_block_labels : goal.decreases-add_block_labels
decreases-add_block_labels l = 4 * block_depth (block l.block.now) + 1
