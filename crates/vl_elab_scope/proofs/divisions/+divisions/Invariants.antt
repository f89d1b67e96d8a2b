use Rattle.std.proofs.Common.{◌≡◌, ◌≤◌, ◌*◌, ◌+◌, length}
use Rattle.std.specs.Prelude.{drop}
use Rattle.vl_tree.specs.Expr.{exprs, depth, exprs_depth, selects_depth, whole}
use Rattle.vl_tree.specs.ExprView.{selects, with_select}
use Rattle.vl_elab_scope.specs.Divisions.{parts_have_division, selects_have_division}
use Rattle.vl_elab_scope.proofs.divisions.+divisions.Given as goal

abbrev pub decreases-has_division : goal.decreases-has_division
decreases-has_division l = 4 * depth l.expr.now

abbrev pub decreases-parts_have_division : goal.decreases-parts_have_division
decreases-parts_have_division l = 4 * exprs_depth (exprs l.all.now) + 1

abbrev pub decreases-selects_have_division : goal.decreases-selects_have_division
decreases-selects_have_division l = 4 * selects_depth (selects l.all.now) + 3

abbrev pub decreases-select_has_division : goal.decreases-select_has_division
decreases-select_has_division l = 4 * selects_depth (with_select l.select.now whole) + 2

abbrev pub invariant-parts_have_division-loop-place : goal.invariant-parts_have_division-loop-place
invariant-parts_have_division-loop-place l =
    (l.place ≤ length l.all) × (parts_have_division (exprs (drop l.place l.all)) ≡ l.found)

abbrev pub decreases-parts_have_division-loop-place : goal.decreases-parts_have_division-loop-place
decreases-parts_have_division-loop-place l = l.place

abbrev pub invariant-selects_have_division-loop-place : goal.invariant-selects_have_division-loop-place
invariant-selects_have_division-loop-place l =
    (l.place ≤ length l.all) × (selects_have_division (selects (drop l.place l.all)) ≡ l.found)

abbrev pub decreases-selects_have_division-loop-place : goal.decreases-selects_have_division-loop-place
decreases-selects_have_division-loop-place l = l.place
