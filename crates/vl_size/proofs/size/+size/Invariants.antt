use Rattle.std.proofs.Common.{◌≡◌, ◌+◌, ◌*◌, ◌^◌, ◌≤◌, ◌<◌, max, drop}
use Rattle.vl_tree.specs.Expr.{exprs, depth, exprs_depth, selects_depth, whole}
use Rattle.vl_tree.specs.ExprView.{selects, with_select}
use Rattle.vl_size.specs.Size.{sizes, concatenated, no_names}
use Rattle.vl_size.proofs.Joined.{Joins}
use Rattle.vl_size.proofs.Rest.{with_rest}
use Rattle.vl_size.proofs.size.+size.Given as goal

abbrev pub decreases-self_size : goal.decreases-self_size
decreases-self_size l = 8 * depth l.expr.now

abbrev pub decreases-evaluate : goal.decreases-evaluate
decreases-evaluate l = 8 * depth l.expr.now

abbrev pub decreases-own : goal.decreases-own
decreases-own l = 8 * depth l.expr.now + 1

abbrev pub decreases-tested : goal.decreases-tested
decreases-tested l = 8 * max (depth l.left.now) (depth l.right.now) + 3

abbrev pub decreases-evaluate_unary : goal.decreases-evaluate_unary
decreases-evaluate_unary l = 8 * depth l.operand.now + 4

abbrev pub decreases-evaluate_arithmetic : goal.decreases-evaluate_arithmetic
decreases-evaluate_arithmetic l = 8 * max (depth l.left.now) (depth l.right.now) + 3

abbrev pub decreases-evaluate_binary : goal.decreases-evaluate_binary
decreases-evaluate_binary l = 8 * max (depth l.left.now) (depth l.right.now) + 4

abbrev pub decreases-quotient_size : goal.decreases-quotient_size
decreases-quotient_size l = 8 * max (depth l.left.now) (depth l.right.now) + 3

abbrev pub decreases-binary_size : goal.decreases-binary_size
decreases-binary_size l = 8 * max (depth l.left.now) (depth l.right.now) + 4

abbrev pub decreases-sizes_of : goal.decreases-sizes_of
decreases-sizes_of l = 8 * exprs_depth (exprs l.all.now) + 3

abbrev pub decreases-joined : goal.decreases-joined
decreases-joined l = 8 * exprs_depth (exprs l.all.now) + 3

abbrev pub decreases-selected_size : goal.decreases-selected_size
decreases-selected_size l = 8 * selects_depth (selects l.all.now) + 5

abbrev pub decreases-select_size : goal.decreases-select_size
decreases-select_size l = 8 * selects_depth (with_select l.select.now whole) + 4

abbrev pub invariant-sizes_of-loop-part : goal.invariant-sizes_of-loop-part
invariant-sizes_of-loop-part l =
    (l.sum ≤ 128) × (with_rest l.decls l.sum (exprs (drop l.part-index l.all)) ≡ sizes l.decls (exprs l.all))

abbrev pub invariant-joined-loop-part : goal.invariant-joined-loop-part
invariant-joined-loop-part l =
    (l.width ≤ 128) × (l.number < 2 ^ l.width)
    × (with_rest l.decls l.width (exprs (drop l.part-index l.all)) ≡ sizes l.decls (exprs l.all))
    × Joins l.decls (sizes l.decls (exprs l.all)) l.number (exprs (drop l.part-index l.all))
    (concatenated l.decls no_names (exprs l.all))
