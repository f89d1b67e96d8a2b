use Rattle.std.proofs.Common.{◌≡◌, ◌*◌, ◌+◌}
use Rattle.std.specs.Prelude.{drop}
use Rattle.vl_tree.specs.Stmt.{stmts, depth, stmts_depth, arms_depth, no_arms}
use Rattle.vl_tree.specs.StmtView.{arms, with_arm}
use Rattle.vl_elab_places.specs.Passing.{stmts_passed, arms_passed}
use Rattle.vl_elab_places.proofs.stmts.+nodes.Given as goal

abbrev pub decreases-pass_stmt : goal.decreases-pass_stmt
decreases-pass_stmt l = 4 * depth l.stmt.now

abbrev pub decreases-pass_stmts : goal.decreases-pass_stmts
decreases-pass_stmts l = 4 * stmts_depth (stmts l.all.now) + 1

abbrev pub decreases-pass_arms : goal.decreases-pass_arms
decreases-pass_arms l = 4 * arms_depth (arms l.all.now) + 2

abbrev pub decreases-pass_arm : goal.decreases-pass_arm
decreases-pass_arm l = 4 * arms_depth (with_arm l.arm.now no_arms) + 1

abbrev pub invariant-pass_stmts-loop-stmt : goal.invariant-pass_stmts-loop-stmt
invariant-pass_stmts-loop-stmt l =
    stmts_passed (stmts (drop l.stmt-index l.all)) l.at ≡ stmts_passed (stmts l.all) l.fn.start

abbrev pub invariant-pass_arms-loop-arm : goal.invariant-pass_arms-loop-arm
invariant-pass_arms-loop-arm l =
    arms_passed (arms (drop l.arm-index l.all)) l.at ≡ arms_passed (arms l.all) l.fn.start
