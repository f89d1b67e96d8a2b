use Rattle.std.proofs.Common.{◌≡◌}
use Rattle.std.specs.Prelude.{drop}
use Rattle.vl_tree.specs.Stmt.{stmts, more_stmts}
use Rattle.vl_tree.specs.StmtView.{arms, with_arm}
use Rattle.vl_mean_flat.specs.FullNames as spec
use Rattle.vl_elab_draft.proofs.Laid.{laid}
use Rattle.vl_elab_draft.proofs.stmts.+stmt.Given as goal

abbrev pub invariant-flat_stmts-loop-stmt : goal.invariant-flat_stmts-loop-stmt
invariant-flat_stmts-loop-stmt l =
    laid more_stmts l.parts (spec.flat_stmts l.scopes (stmts (drop l.stmt-index l.all)))
    ≡ spec.flat_stmts l.scopes (stmts l.all)

abbrev pub invariant-flat_arms-loop-arm : goal.invariant-flat_arms-loop-arm
invariant-flat_arms-loop-arm l =
    laid with_arm l.parts (spec.flat_arms l.scopes (arms (drop l.arm-index l.all)))
    ≡ spec.flat_arms l.scopes (arms l.all)
