use Rattle.std.proofs.Common.{◌≡◌, ◌≤◌, ◌*◌, ◌+◌, length}
use Rattle.std.specs.Prelude.{drop}
use Rattle.vl_tree.specs.Expr.{exprs, depth, exprs_depth, selects_depth, whole}
use Rattle.vl_tree.specs.ExprView.{selects, with_select}
use Rattle.vl_elab_check_instance.specs.Parts.{any_varies, selects_vary}
use Rattle.vl_elab_check_instance.proofs.varying.+varies.Given as goal

abbrev pub decreases-varies : goal.decreases-varies
decreases-varies l = 4 * depth l.expr.now

abbrev pub decreases-any_varies : goal.decreases-any_varies
decreases-any_varies l = 4 * exprs_depth (exprs l.all.now) + 1

abbrev pub decreases-select_varies : goal.decreases-select_varies
decreases-select_varies l = 4 * selects_depth (with_select l.select.now whole) + 1

abbrev pub decreases-any_select_varies : goal.decreases-any_select_varies
decreases-any_select_varies l = 4 * selects_depth (selects l.all.now) + 2

abbrev pub decreases-name_varies : goal.decreases-name_varies
decreases-name_varies l = 4 * selects_depth (selects l.all.now) + 3

abbrev pub invariant-any_varies-loop-place : goal.invariant-any_varies-loop-place
invariant-any_varies-loop-place l = record {
  within : l.place ≤ length l.all;
  found : any_varies l.names l.fixed (exprs (drop l.place l.all)) ≡ l.found;
}

abbrev pub decreases-any_varies-loop-place : goal.decreases-any_varies-loop-place
decreases-any_varies-loop-place l = l.place

abbrev pub invariant-any_select_varies-loop-place : goal.invariant-any_select_varies-loop-place
invariant-any_select_varies-loop-place l = record {
  within : l.place ≤ length l.all;
  found : selects_vary l.names l.fixed (selects (drop l.place l.all)) ≡ l.found;
}

abbrev pub decreases-any_select_varies-loop-place : goal.decreases-any_select_varies-loop-place
decreases-any_select_varies-loop-place l = l.place
