use Rattle.std.proofs.Common.{◌≡◌, ◌≤◌, ◌*◌, ◌+◌, length}
use Rattle.std.specs.Prelude.{drop}
use Rattle.vl_tree.specs.Lval.{lvals, depth, lvals_depth}
use Rattle.vl_elab_spec.specs.Statements.{targets_width}
use Rattle.vl_elab_check_stmt.specs.Parts.{targets_fault}
use Rattle.vl_elab_check_stmt.proofs.targets.+target.Given as goal

abbrev pub decreases-judge_target : goal.decreases-judge_target
decreases-judge_target l = 4 * depth l.target.now

abbrev pub decreases-judge_targets : goal.decreases-judge_targets
decreases-judge_targets l = 4 * lvals_depth (lvals l.all.now) + 1

abbrev pub invariant-judge_targets-loop-place : goal.invariant-judge_targets-loop-place
invariant-judge_targets-loop-place l = record {
  within : l.place ≤ length l.all;
  width : targets_width l.names (lvals (drop l.place l.all)) ≡ l.width;
  fault : targets_fault l.names l.continuous l.fixed (lvals (drop l.place l.all)) ≡ l.fault;
}

abbrev pub decreases-judge_targets-loop-place : goal.decreases-judge_targets-loop-place
decreases-judge_targets-loop-place l = l.place
