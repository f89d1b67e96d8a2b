-- Parts of lists are no deeper than these.
use Rattle.vl_size.proofs.Falls.{select_depth}
use Rattle.vl_size.proofs.Rest.{part_depth}
use Rattle.vl_elab_count.proofs.CountSums.{target_depth}
use Rattle.vl_elab_count.proofs.InLists.{stmt_depth, arm_depth}

pub ruleset depths = (part_depth, select_depth, target_depth, stmt_depth, arm_depth)
