use Rattle.std.proofs.Common.{◌≡◌, ◌*◌, ◌+◌}
use Rattle.std.specs.Prelude.{drop}
use Rattle.vl_tree.specs.Lval.{lvals, depth, lvals_depth}
use Rattle.vl_elab_places.specs.Passing.{targets_passed}
use Rattle.vl_elab_places.proofs.exprs.+target.Given as goal

abbrev pub decreases-pass_target : goal.decreases-pass_target
decreases-pass_target l = 4 * depth l.target.now

abbrev pub decreases-pass_targets : goal.decreases-pass_targets
decreases-pass_targets l = 4 * lvals_depth (lvals l.all.now) + 1

abbrev pub invariant-pass_targets-loop-part : goal.invariant-pass_targets-loop-part
invariant-pass_targets-loop-part l =
    targets_passed (lvals (drop l.part-index l.all)) l.at ≡ targets_passed (lvals l.all) l.fn.start
