use Rattle.std.proofs.Common.{◌≡◌, ◌≤◌, ◌*◌, ◌+◌, length}
use Rattle.std.specs.Prelude.{drop}
use Rattle.vl_tree.specs.Lval.{lvals, depth, lvals_depth}
use Rattle.vl_mean.specs.ConstantFaults.{capped}
use Rattle.vl_mean.specs.FlatLaw.{all_target_nodes}
use Rattle.vl_elab_count.proofs.exprs.+target.Given as goal

abbrev pub decreases-target_nodes : goal.decreases-target_nodes
decreases-target_nodes l = 4 * depth l.target.now

abbrev pub decreases-targets_nodes : goal.decreases-targets_nodes
decreases-targets_nodes l = 4 * lvals_depth (lvals l.all.now) + 1

abbrev pub invariant-targets_nodes-loop-place : goal.invariant-targets_nodes-loop-place
invariant-targets_nodes-loop-place l = record {
  within : l.place ≤ length l.all;
  total : l.total ≡ capped (all_target_nodes (lvals (drop l.place l.all)));
}

abbrev pub decreases-targets_nodes-loop-place : goal.decreases-targets_nodes-loop-place
decreases-targets_nodes-loop-place l = l.place
