use Rattle.std.proofs.Common.{◌≡◌, ◌+◌, [], ◌∷◌, arith, refl, ap}
use Rattle.std.specs.Prelude.{drop}
use Rattle.std.proofs.lemmas.Grind.{common_steps}
use Rattle.vl_tree.specs.Stmt.{stmts, more_stmts}
use Rattle.vl_tree.specs.StmtView.{arms, with_arm}
use Rattle.vl_mean_flat.specs.FullNames as spec
use Rattle.vl_elab_draft.proofs.Laid.{laid_on, laid_end, laid-stmts, laid-arms}
use Rattle.vl_elab_draft.proofs.stmts.+stmt.Goals as goal

pub flat_stmts-loop-stmt-preserved : goal.flat_stmts-loop-stmt-preserved
flat_stmts-loop-stmt-preserved t c =
    let front : drop c.loop-stmt.stmt-index c.args.all.now ≡ c.stmt-item.result
    ∷ drop (c.loop-stmt.stmt-index + 1) c.args.all.now = grind (arith, common_steps) in
    laid_on more_stmts stmts (spec.flat_stmts c.args.scopes.now) _ _ c.args.all.now _ _ c.loop-stmt.stmt-index _
    (λ y ys. refl) front c.in_ok-push.ensures.ok
    (ap (λ x. more_stmts x (spec.flat_stmts c.args.scopes.now (stmts (drop
    (c.loop-stmt.stmt-index + 1) c.args.all.now)))) c.in_ok-flat_stmt.ensures)
    c.loop-stmt.invariant

pub flat_stmts-returns : goal.flat_stmts-returns
flat_stmts-returns t c =
    let gone : drop c.loop-stmt.stmt-index c.args.all.now ≡ [] = grind (arith, common_steps) in
    laid_end more_stmts stmts (spec.flat_stmts c.args.scopes.now) _ c.args.all.now c.loop-stmt.stmt-index _
    refl (laid-stmts _) gone c.loop-stmt.invariant

pub flat_arms-loop-arm-preserved : goal.flat_arms-loop-arm-preserved
flat_arms-loop-arm-preserved t c =
    let front : drop c.loop-arm.arm-index c.args.all.now ≡ c.arm-item.result
    ∷ drop (c.loop-arm.arm-index + 1) c.args.all.now = grind (arith, common_steps) in
    laid_on with_arm arms (spec.flat_arms c.args.scopes.now) _ _ c.args.all.now _ _ c.loop-arm.arm-index _
    (λ y ys. refl) front c.in_ok-push.ensures.ok
    (c.in_ok-flat_arm.ensures (arms (drop (c.loop-arm.arm-index + 1) c.args.all.now)))
    c.loop-arm.invariant

pub flat_arms-returns : goal.flat_arms-returns
flat_arms-returns t c =
    let gone : drop c.loop-arm.arm-index c.args.all.now ≡ [] = grind (arith, common_steps) in
    laid_end with_arm arms (spec.flat_arms c.args.scopes.now) _ c.args.all.now c.loop-arm.arm-index _
    refl (laid-arms _) gone c.loop-arm.invariant
