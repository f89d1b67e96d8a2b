use Rattle.std.proofs.Common.{◌≡◌, ◌≤◌, ◌*◌, ◌+◌, length}
use Rattle.std.specs.Prelude.{drop}
use Rattle.vl_tree.specs.Expr.{exprs, depth, exprs_depth, selects_depth, whole}
use Rattle.vl_tree.specs.ExprView.{selects, with_select}
use Rattle.vl_size.specs.Divisors.{parts_zero_divisor, selects_zero_divisor}
use Rattle.vl_size.proofs.divisor.+divisor.Given as goal

abbrev pub decreases-zero_divisor : goal.decreases-zero_divisor
decreases-zero_divisor l = 4 * depth l.expr.now

abbrev pub decreases-own_zero_divisor : goal.decreases-own_zero_divisor
decreases-own_zero_divisor l = 4 * depth l.expr.now + 1

abbrev pub decreases-parts_zero_divisor : goal.decreases-parts_zero_divisor
decreases-parts_zero_divisor l = 4 * exprs_depth (exprs l.all.now) + 2

abbrev pub decreases-selects_zero_divisor : goal.decreases-selects_zero_divisor
decreases-selects_zero_divisor l = 4 * selects_depth (selects l.all.now) + 3

abbrev pub decreases-select_zero_divisor : goal.decreases-select_zero_divisor
decreases-select_zero_divisor l = 4 * selects_depth (with_select l.select.now whole) + 2

abbrev pub invariant-parts_zero_divisor-loop-place : goal.invariant-parts_zero_divisor-loop-place
invariant-parts_zero_divisor-loop-place l =
    (l.place ≤ length l.all) × (parts_zero_divisor l.decls (exprs (drop l.place l.all)) ≡ l.found)

abbrev pub decreases-parts_zero_divisor-loop-place : goal.decreases-parts_zero_divisor-loop-place
decreases-parts_zero_divisor-loop-place l = l.place

abbrev pub invariant-selects_zero_divisor-loop-place : goal.invariant-selects_zero_divisor-loop-place
invariant-selects_zero_divisor-loop-place l =
    (l.place ≤ length l.all) × (selects_zero_divisor l.decls (selects (drop l.place l.all)) ≡ l.found)

abbrev pub decreases-selects_zero_divisor-loop-place : goal.decreases-selects_zero_divisor-loop-place
decreases-selects_zero_divisor-loop-place l = l.place
