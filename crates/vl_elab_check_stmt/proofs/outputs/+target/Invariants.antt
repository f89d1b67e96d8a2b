use Rattle.std.proofs.Common.{◌≡◌, ◌*◌, ◌+◌}
use Rattle.std.specs.Prelude.{drop}
use Rattle.vl_tree.specs.Expr.{exprs, depth, exprs_depth}
use Rattle.vl_mean.specs.Parts.{targets_of}
use Rattle.vl_elab_check_stmt.specs.Outputs.{targets_before}
use Rattle.vl_elab_check_stmt.proofs.outputs.+target.Given as goal

abbrev pub decreases-target_of : goal.decreases-target_of
decreases-target_of l = 4 * depth l.expr.now

abbrev pub decreases-targets_of : goal.decreases-targets_of
decreases-targets_of l = 4 * exprs_depth (exprs l.all.now) + 1

abbrev pub invariant-targets_of-loop-part : goal.invariant-targets_of-loop-part
invariant-targets_of-loop-part l =
    targets_before l.targets (targets_of (exprs (drop l.part-index l.all))) ≡ targets_of (exprs l.all)
