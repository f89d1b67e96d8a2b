use Rattle.std.proofs.Common.{◌≡◌, ◌≤◌, ◌*◌, ◌+◌, length, Some}
use Rattle.std.specs.Prelude.{drop}
use Rattle.vl_tree.specs.Expr.{exprs, depth, exprs_depth}
use Rattle.vl_mean.specs.ConstantFaults.{wides}
use Rattle.vl_mean.specs.Env.{cells_of}
use Rattle.vl_mean.specs.Params.{constant}
use Rattle.vl_mean.proofs.wide.+wide.Given as goal

abbrev pub decreases-wide : goal.decreases-wide
decreases-wide l = 4 * depth l.expr.now

abbrev pub decreases-wides : goal.decreases-wides
decreases-wides l = 4 * exprs_depth (exprs l.all.now) + 1

abbrev pub invariant-wides-loop-place : goal.invariant-wides-loop-place
invariant-wides-loop-place l =
    (l.place ≤ length l.all)
    × (wides (constant l.params) l.env.decls (cells_of l.env) (exprs (drop l.place l.all)) ≡ Some l.sum)

abbrev pub decreases-wides-loop-place : goal.decreases-wides-loop-place
decreases-wides-loop-place l = l.place
