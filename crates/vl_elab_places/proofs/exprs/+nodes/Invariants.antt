use Rattle.std.proofs.Common.{◌≡◌, ◌*◌, ◌+◌}
use Rattle.std.specs.Prelude.{drop}
use Rattle.vl_tree.specs.Expr.{exprs, depth, exprs_depth, selects_depth, whole}
use Rattle.vl_tree.specs.ExprView.{selects, with_select}
use Rattle.vl_elab_places.specs.Passing.{exprs_passed, selects_passed}
use Rattle.vl_elab_places.proofs.exprs.+nodes.Given as goal

abbrev pub decreases-pass_expr : goal.decreases-pass_expr
decreases-pass_expr l = 4 * depth l.expr.now

abbrev pub decreases-pass_exprs : goal.decreases-pass_exprs
decreases-pass_exprs l = 4 * exprs_depth (exprs l.all.now) + 1

abbrev pub decreases-pass_select : goal.decreases-pass_select
decreases-pass_select l = 4 * selects_depth (with_select l.select.now whole) + 1

abbrev pub decreases-pass_selects : goal.decreases-pass_selects
decreases-pass_selects l = 4 * selects_depth (selects l.all.now) + 2

abbrev pub invariant-pass_exprs-loop-part : goal.invariant-pass_exprs-loop-part
invariant-pass_exprs-loop-part l =
    exprs_passed (exprs (drop l.part-index l.all)) l.at ≡ exprs_passed (exprs l.all) l.fn.start

abbrev pub invariant-pass_selects-loop-select : goal.invariant-pass_selects-loop-select
invariant-pass_selects-loop-select l =
    selects_passed (selects (drop l.select-index l.all)) l.at ≡ selects_passed (selects l.all) l.fn.start
