use Rattle.std.proofs.Common.{◌≡◌, ◌≤◌, ◌*◌, ◌+◌, length}
use Rattle.std.specs.Prelude.{drop}
use Rattle.vl_tree.specs.Expr.{exprs, depth, exprs_depth, selects_depth, whole}
use Rattle.vl_tree.specs.ExprView.{selects, with_select}
use Rattle.vl_elab_spec.specs.Expressions.{wide_sizes}
use Rattle.vl_elab_check_expr.specs.Judged.{faults, selects_fault}
use Rattle.vl_elab_check_expr.proofs.judge.+judge.Given as goal

abbrev pub decreases-judge : goal.decreases-judge
decreases-judge l = 5 * depth l.expr.now

abbrev pub decreases-judge_behind : goal.decreases-judge_behind
decreases-judge_behind l = 5 * depth l.expr.now + 1

abbrev pub decreases-judge_parts_behind : goal.decreases-judge_parts_behind
decreases-judge_parts_behind l = 5 * exprs_depth (exprs l.all.now) + 2

abbrev pub decreases-judge_parts : goal.decreases-judge_parts
decreases-judge_parts l = 5 * exprs_depth (exprs l.all.now) + 1

abbrev pub decreases-judge_select : goal.decreases-judge_select
decreases-judge_select l = 5 * selects_depth (with_select l.select.now whole) + 2

abbrev pub decreases-judge_selects : goal.decreases-judge_selects
decreases-judge_selects l = 5 * selects_depth (selects l.all.now) + 3

abbrev pub decreases-judge_name : goal.decreases-judge_name
decreases-judge_name l = 5 * selects_depth (selects l.all.now) + 4

abbrev pub invariant-judge_parts-loop-place : goal.invariant-judge_parts-loop-place
invariant-judge_parts-loop-place l = record {
  within : l.place ≤ length l.all;
  width : wide_sizes l.names (exprs (drop l.place l.all)) ≡ l.width;
  fault : faults l.names l.fixed (exprs (drop l.place l.all)) ≡ l.fault;
}

abbrev pub decreases-judge_parts-loop-place : goal.decreases-judge_parts-loop-place
decreases-judge_parts-loop-place l = l.place

abbrev pub invariant-judge_selects-loop-place : goal.invariant-judge_selects-loop-place
invariant-judge_selects-loop-place l = record {
  within : l.place ≤ length l.all;
  fault : selects_fault l.names l.fixed (selects (drop l.place l.all)) ≡ l.fault;
}

abbrev pub decreases-judge_selects-loop-place : goal.decreases-judge_selects-loop-place
decreases-judge_selects-loop-place l = l.place
