use Rattle.std.specs.Prelude.{◌+◌, ◌*◌, max, suc, take}
use Rattle.vl_tree.specs.Expr.{depth, exprs, exprs_depth, selects_depth, whole}
use Rattle.vl_tree.specs.ExprView.{selects, with_select}
use Rattle.vl_size.specs.Size as spec
use Rattle.vl_size.specs.Size.{or_none}
use Rattle.vl_lower_expr.specs.Bound.{bound}
use Rattle.vl_lower_expr.specs.Lowers.{Lowers}
use Rattle.vl_lower_expr.proofs.expr.+term.Given as goal

abbrev pub decreases-term : goal.decreases-term
decreases-term l = 16 * depth l.expr.now

abbrev pub decreases-own : goal.decreases-own
decreases-own l = 16 * depth l.expr.now + 1

abbrev pub decreases-truth : goal.decreases-truth
decreases-truth l = 16 * depth l.expr.now + 2

abbrev pub decreases-choice : goal.decreases-choice
decreases-choice l = 16 * max (depth l.condition.now) (max (depth l.first.now) (depth l.second.now)) + 3

abbrev pub decreases-changed : goal.decreases-changed
decreases-changed l = 16 * depth l.operand.now + 3

abbrev pub decreases-reduction : goal.decreases-reduction
decreases-reduction l = 16 * depth l.operand.now + 3

abbrev pub decreases-unary : goal.decreases-unary
decreases-unary l = 16 * depth l.operand.now + 4

abbrev pub decreases-both : goal.decreases-both
decreases-both l = 16 * max (depth l.left.now) (depth l.right.now) + 3

abbrev pub decreases-either : goal.decreases-either
decreases-either l = 16 * max (depth l.left.now) (depth l.right.now) + 3

abbrev pub decreases-comparison : goal.decreases-comparison
decreases-comparison l = 16 * max (depth l.left.now) (depth l.right.now) + 3

abbrev pub decreases-tested : goal.decreases-tested
decreases-tested l = 16 * max (depth l.left.now) (depth l.right.now) + 4

abbrev pub decreases-binary : goal.decreases-binary
decreases-binary l = 16 * max (depth l.left.now) (depth l.right.now) + 5

abbrev pub decreases-behind : goal.decreases-behind
decreases-behind l = 16 * depth l.part.now + 2

abbrev pub decreases-concatenated : goal.decreases-concatenated
decreases-concatenated l = 16 * exprs_depth (exprs l.all.now) + 3

abbrev pub decreases-joined : goal.decreases-joined
decreases-joined l = 16 * exprs_depth (exprs l.all.now) + 4

abbrev pub decreases-repeated : goal.decreases-repeated
decreases-repeated l = 16 * exprs_depth (exprs l.all.now) + 4

abbrev pub decreases-named : goal.decreases-named
decreases-named l = 16 * selects_depth (selects l.all.now) + 8

abbrev pub decreases-word : goal.decreases-word
decreases-word l = 16 * selects_depth (selects l.all.now) + 7

abbrev pub decreases-selected : goal.decreases-selected
decreases-selected l = 16 * selects_depth (selects l.all.now) + 6

abbrev pub decreases-one_select : goal.decreases-one_select
decreases-one_select l = 16 * selects_depth (with_select l.select.now whole) + 5

abbrev pub decreases-bit_select : goal.decreases-bit_select
decreases-bit_select l = 16 * depth l.index.now + 4

abbrev pub decreases-indexed_select : goal.decreases-indexed_select
decreases-indexed_select l = 16 * depth l.start.now + 4

-- the first parts
abbrev pub invariant-concatenated-loop-part : goal.invariant-concatenated-loop-part
invariant-concatenated-loop-part l =
    let es = exprs (take (suc l.part-index) l.all) in
    Lowers l.fn.net l.net (bound l.names) (or_none (spec.sizes l.names.decls.now es))
    (λ g v. spec.concatenated l.names.decls.now v es) l.front
