use Rattle.std.proofs.Common.{◌≡◌, ◌≤◌, ◌*◌, ◌+◌, length}
use Rattle.std.specs.Prelude.{drop}
use Rattle.vl_tree.specs.Stmt.{stmts, depth, stmts_depth, arms_depth, no_arms}
use Rattle.vl_tree.specs.StmtView.{arms, with_arm}
use Rattle.vl_elab_check_stmt.specs.Parts.{stmts_fault, arms_fault}
use Rattle.vl_elab_check_stmt.proofs.stmts.+statement.Given as goal

abbrev pub decreases-judge_stmt : goal.decreases-judge_stmt
decreases-judge_stmt l = 5 * depth l.stmt.now

abbrev pub decreases-stmt_behind : goal.decreases-stmt_behind
decreases-stmt_behind l = 5 * depth l.stmt.now + 1

abbrev pub decreases-judge_stmts : goal.decreases-judge_stmts
decreases-judge_stmts l = 5 * stmts_depth (stmts l.all.now) + 1

abbrev pub decreases-judge_arms : goal.decreases-judge_arms
decreases-judge_arms l = 5 * arms_depth (arms l.all.now) + 3

abbrev pub decreases-judge_arm : goal.decreases-judge_arm
decreases-judge_arm l = 5 * arms_depth (with_arm l.arm.now no_arms) + 2

abbrev pub invariant-judge_stmts-loop-place : goal.invariant-judge_stmts-loop-place
invariant-judge_stmts-loop-place l = record {
  within : l.place ≤ length l.all;
  fault : stmts_fault l.names (stmts (drop l.place l.all)) ≡ l.fault;
}

abbrev pub decreases-judge_stmts-loop-place : goal.decreases-judge_stmts-loop-place
decreases-judge_stmts-loop-place l = l.place

abbrev pub invariant-judge_arms-loop-place : goal.invariant-judge_arms-loop-place
invariant-judge_arms-loop-place l = record {
  within : l.place ≤ length l.all;
  fault : arms_fault l.names l.context (arms (drop l.place l.all)) ≡ l.fault;
}

abbrev pub decreases-judge_arms-loop-place : goal.decreases-judge_arms-loop-place
decreases-judge_arms-loop-place l = l.place
