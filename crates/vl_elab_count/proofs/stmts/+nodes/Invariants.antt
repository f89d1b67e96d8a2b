use Rattle.std.proofs.Common.{◌≡◌, ◌≤◌, ◌*◌, ◌+◌, length}
use Rattle.std.specs.Prelude.{drop}
use Rattle.vl_tree.specs.Stmt.{stmts, depth, stmts_depth, arms_depth, no_arms}
use Rattle.vl_tree.specs.StmtView.{arms, with_arm}
use Rattle.vl_mean.specs.ConstantFaults.{capped}
use Rattle.vl_mean.specs.FlatLaw.{all_stmt_nodes, arm_nodes}
use Rattle.vl_elab_count.proofs.stmts.+nodes.Given as goal

abbrev pub decreases-stmt_nodes : goal.decreases-stmt_nodes
decreases-stmt_nodes l = 4 * depth l.stmt.now

abbrev pub decreases-stmts_nodes : goal.decreases-stmts_nodes
decreases-stmts_nodes l = 4 * stmts_depth (stmts l.all.now) + 1

abbrev pub decreases-arms_nodes : goal.decreases-arms_nodes
decreases-arms_nodes l = 4 * arms_depth (arms l.all.now) + 2

abbrev pub decreases-arm_nodes : goal.decreases-arm_nodes
decreases-arm_nodes l = 4 * arms_depth (with_arm l.arm.now no_arms) + 1

abbrev pub invariant-stmts_nodes-loop-place : goal.invariant-stmts_nodes-loop-place
invariant-stmts_nodes-loop-place l = record {
  within : l.place ≤ length l.all;
  total : l.total ≡ capped (all_stmt_nodes (stmts (drop l.place l.all)));
}

abbrev pub decreases-stmts_nodes-loop-place : goal.decreases-stmts_nodes-loop-place
decreases-stmts_nodes-loop-place l = l.place

abbrev pub invariant-arms_nodes-loop-place : goal.invariant-arms_nodes-loop-place
invariant-arms_nodes-loop-place l = record {
  within : l.place ≤ length l.all;
  total : l.total ≡ capped (arm_nodes (arms (drop l.place l.all)));
}

abbrev pub decreases-arms_nodes-loop-place : goal.decreases-arms_nodes-loop-place
decreases-arms_nodes-loop-place l = l.place
