use Rattle.std.proofs.Common.{◌≡◌, ◌≤◌, length}
use Rattle.std.specs.Prelude.{drop}
use Rattle.vl_tree.specs.ExprView.{selects}
use Rattle.vl_size.specs.Divisors.{selects_zero_divisor}
use Rattle.vl_mean.specs.Constants.{settled_selects}
use Rattle.vl_elab_spec.specs.Meanings.{constants, objects}
use Rattle.vl_elab_check_stmt.proofs.targets.selects_divisor.Given as goal

abbrev pub invariant-loop-place : goal.invariant-loop-place
invariant-loop-place l = record {
  within : l.place ≤ length l.all;
  found : selects_zero_divisor (objects l.names) (settled_selects (constants l.names) (selects (drop l.place l.all)))
      ≡ l.found;
}

abbrev pub decreases-loop-place : goal.decreases-loop-place
decreases-loop-place l = l.place
