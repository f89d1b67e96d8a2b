use Rattle.std.proofs.Common.{◌≡◌, ◌+◌, ◌*◌, ◌^◌, ◌≤◌, ◌<◌, max, length, Some}
use Rattle.std.specs.Prelude.{drop}
use Rattle.vl_tree.specs.Expr.{exprs, depth, exprs_depth, selects_depth, whole}
use Rattle.vl_tree.specs.ExprView.{selects, with_select}
use Rattle.vl_size.specs.Size.{sizes, concatenated}
use Rattle.vl_mean.specs.Env.{cells_of}
use Rattle.vl_mean.proofs.evaluate.+value.Given as goal

abbrev pub decreases-value : goal.decreases-value
decreases-value l = 8 * depth l.expr.now

abbrev pub decreases-own : goal.decreases-own
decreases-own l = 8 * depth l.expr.now + 1

abbrev pub decreases-is_true : goal.decreases-is_true
decreases-is_true l = 8 * depth l.expr.now + 2

abbrev pub decreases-tested : goal.decreases-tested
decreases-tested l = 8 * max (depth l.left.now) (depth l.right.now) + 3

abbrev pub decreases-binary_value : goal.decreases-binary_value
decreases-binary_value l = 8 * max (depth l.left.now) (depth l.right.now) + 4

abbrev pub decreases-unary_value : goal.decreases-unary_value
decreases-unary_value l = 8 * depth l.operand.now + 4

abbrev pub decreases-joined : goal.decreases-joined
decreases-joined l = 8 * exprs_depth (exprs l.all.now) + 3

abbrev pub decreases-name_value : goal.decreases-name_value
decreases-name_value l = 8 * selects_depth (selects l.all.now) + 5

abbrev pub decreases-select_value : goal.decreases-select_value
decreases-select_value l = 8 * selects_depth (with_select l.select.now whole) + 4

abbrev pub invariant-joined-loop-place : goal.invariant-joined-loop-place
invariant-joined-loop-place l =
    (l.place ≤ length l.all) × (l.width ≤ 128) × (l.number < 2 ^ l.width)
    × (sizes l.env.decls (exprs (drop l.place l.all)) ≡ Some l.width)
    × (concatenated l.env.decls (cells_of l.env) (exprs (drop l.place l.all)) ≡ l.number)

abbrev pub decreases-joined-loop-place : goal.decreases-joined-loop-place
decreases-joined-loop-place l = l.place
