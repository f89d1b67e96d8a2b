use Rattle.std.proofs.Common.{◌≡◌, ◌≤◌, ◌*◌, ◌+◌, length}
use Rattle.std.specs.Prelude.{drop}
use Rattle.vl_tree.specs.Lval.{lvals, depth, lvals_depth}
use Rattle.vl_elab_spec.specs.Items.{are_net_targets}
use Rattle.vl_elab_check_instance.proofs.varying.+net.Given as goal

abbrev pub decreases-is_net_target : goal.decreases-is_net_target
decreases-is_net_target l = 4 * depth l.target.now

abbrev pub decreases-are_net_targets : goal.decreases-are_net_targets
decreases-are_net_targets l = 4 * lvals_depth (lvals l.all.now) + 1

abbrev pub invariant-are_net_targets-loop-place : goal.invariant-are_net_targets-loop-place
invariant-are_net_targets-loop-place l = record {
  within : l.place ≤ length l.all;
  found : are_net_targets l.names (lvals (drop l.place l.all)) ≡ l.found;
}

abbrev pub decreases-are_net_targets-loop-place : goal.decreases-are_net_targets-loop-place
decreases-are_net_targets-loop-place l = l.place
