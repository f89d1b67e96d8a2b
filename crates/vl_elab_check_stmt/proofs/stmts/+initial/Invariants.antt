use Rattle.std.proofs.Common.{◌≡◌, ◌≤◌, ◌*◌, ◌+◌, length}
use Rattle.std.specs.Prelude.{drop}
use Rattle.vl_tree.specs.Stmt.{stmts, depth, stmts_depth}
use Rattle.vl_elab_check_stmt.specs.Parts.{all_initial_fault}
use Rattle.vl_elab_check_stmt.proofs.stmts.+initial.Given as goal

abbrev pub decreases-judge_initial : goal.decreases-judge_initial
decreases-judge_initial l = 4 * depth l.stmt.now

abbrev pub decreases-judge_initials : goal.decreases-judge_initials
decreases-judge_initials l = 4 * stmts_depth (stmts l.all.now) + 1

abbrev pub invariant-judge_initials-loop-place : goal.invariant-judge_initials-loop-place
invariant-judge_initials-loop-place l = record {
  within : l.place ≤ length l.all;
  fault : all_initial_fault l.names (stmts (drop l.place l.all)) ≡ l.fault;
}

abbrev pub decreases-judge_initials-loop-place : goal.decreases-judge_initials-loop-place
decreases-judge_initials-loop-place l = l.place
