use Rattle.std.proofs.Common.{◌≡◌, ◌≤◌, ◌*◌, ◌+◌, length}
use Rattle.std.specs.Prelude.{drop}
use Rattle.vl_tree.specs.Expr.{exprs, depth, exprs_depth, selects_depth, whole}
use Rattle.vl_tree.specs.ExprView.{selects, with_select}
use Rattle.vl_mean.specs.ConstantFaults.{capped}
use Rattle.vl_mean.specs.FlatLaw.{all_nodes, select_nodes}
use Rattle.vl_elab_count.proofs.exprs.+nodes.Given as goal

abbrev pub decreases-expr_nodes : goal.decreases-expr_nodes
decreases-expr_nodes l = 4 * depth l.expr.now

abbrev pub decreases-parts_nodes : goal.decreases-parts_nodes
decreases-parts_nodes l = 4 * exprs_depth (exprs l.all.now) + 1

abbrev pub decreases-select_nodes : goal.decreases-select_nodes
decreases-select_nodes l = 4 * selects_depth (with_select l.select.now whole) + 1

abbrev pub decreases-selects_nodes : goal.decreases-selects_nodes
decreases-selects_nodes l = 4 * selects_depth (selects l.all.now) + 2

abbrev pub invariant-parts_nodes-loop-place : goal.invariant-parts_nodes-loop-place
invariant-parts_nodes-loop-place l = record {
  within : l.place ≤ length l.all;
  total : l.total ≡ capped (all_nodes (exprs (drop l.place l.all)));
}

abbrev pub decreases-parts_nodes-loop-place : goal.decreases-parts_nodes-loop-place
decreases-parts_nodes-loop-place l = l.place

abbrev pub invariant-selects_nodes-loop-place : goal.invariant-selects_nodes-loop-place
invariant-selects_nodes-loop-place l = record {
  within : l.place ≤ length l.all;
  total : l.total ≡ capped (select_nodes (selects (drop l.place l.all)));
}

abbrev pub decreases-selects_nodes-loop-place : goal.decreases-selects_nodes-loop-place
decreases-selects_nodes-loop-place l = l.place
