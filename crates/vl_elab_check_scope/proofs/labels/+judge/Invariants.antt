use Rattle.std.proofs.Common.{◌*◌, ◌+◌}
use Rattle.vl_tree.specs.Item.{depth, block_depth}
use Rattle.vl_tree.specs.ItemView.{block}
use Rattle.vl_elab_check_scope.proofs.labels.+judge.Given as goal

abbrev pub decreases-item_labels : goal.decreases-item_labels
decreases-item_labels l = 4 * depth l.item.now

abbrev pub decreases-block_labels : goal.decreases-block_labels
decreases-block_labels l = 4 * block_depth (block l.block.now) + 1
