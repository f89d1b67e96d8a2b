use Rattle.std.proofs.Common.{◌≡◌, ◌≤◌, ◌*◌, ◌+◌, length, min}
use Rattle.std.specs.Prelude.{drop}
use Rattle.vl_tree.specs.Expr.{exprs, depth, exprs_depth, selects_depth, whole}
use Rattle.vl_tree.specs.ExprView.{selects, with_select}
use Rattle.vl_mean.specs.ConstantFaults.{faults, behind}
use Rattle.vl_mean.specs.Env.{cells_of}
use Rattle.vl_mean.specs.Params.{constant}
use Rattle.vl_mean.proofs.first_fault.+fault.Given as goal

abbrev pub decreases-fault : goal.decreases-fault
decreases-fault l = 4 * depth l.expr.now

abbrev pub decreases-faults : goal.decreases-faults
decreases-faults l = 4 * exprs_depth (exprs l.all.now) + 1

abbrev pub decreases-selects_fault : goal.decreases-selects_fault
decreases-selects_fault l = 4 * selects_depth (selects l.all.now) + 2

abbrev pub decreases-select_fault : goal.decreases-select_fault
decreases-select_fault l = 4 * selects_depth (with_select l.select.now whole) + 1

abbrev pub invariant-faults-loop-place : goal.invariant-faults-loop-place
invariant-faults-loop-place l =
    (l.place ≤ length l.all)
    × (faults (constant l.params) l.env.decls (cells_of l.env) (exprs (drop l.place l.all)) ≡ l.found)

abbrev pub decreases-faults-loop-place : goal.decreases-faults-loop-place
decreases-faults-loop-place l = l.place

abbrev pub invariant-selects_fault-loop-place : goal.invariant-selects_fault-loop-place
invariant-selects_fault-loop-place l =
    (l.place ≤ length l.all) × (min 1 (length l.all) ≤ l.place)
    × (behind (constant l.params) l.env.decls (cells_of l.env) (selects (drop l.place l.all)) ≡ l.found)

abbrev pub decreases-selects_fault-loop-place : goal.decreases-selects_fault-loop-place
decreases-selects_fault-loop-place l = l.place
