use Rattle.std.proofs.Common.{◌≡◌, ◌+◌, [], ◌∷◌, arith, refl, ap}
use Rattle.std.specs.Prelude.{drop}
use Rattle.std.proofs.lemmas.Grind.{common_steps}
use Rattle.vl_tree.specs.Lval.{lvals, more_lvals}
use Rattle.vl_mean_flat.specs.FullNames as spec
use Rattle.vl_elab_draft.proofs.Laid.{laid_on, laid_end, laid-lvals}
use Rattle.vl_elab_draft.proofs.targets.+target.Goals as goal

pub flat_lvals-loop-part-preserved : goal.flat_lvals-loop-part-preserved
flat_lvals-loop-part-preserved t c =
    let front : drop c.loop-part.part-index c.args.all.now ≡ c.part-item.result
    ∷ drop (c.loop-part.part-index + 1) c.args.all.now = grind (arith, common_steps) in
    laid_on more_lvals lvals (spec.flat_lvals c.args.scopes.now) _ _ c.args.all.now _ _ c.loop-part.part-index _
    (λ y ys. refl) front c.in_ok-push.ensures.ok
    (ap (λ x. more_lvals x (spec.flat_lvals c.args.scopes.now (lvals (drop
    (c.loop-part.part-index + 1) c.args.all.now)))) c.in_ok-flat_lval.ensures)
    c.loop-part.invariant

pub flat_lvals-returns : goal.flat_lvals-returns
flat_lvals-returns t c =
    let gone : drop c.loop-part.part-index c.args.all.now ≡ [] = grind (arith, common_steps) in
    laid_end more_lvals lvals (spec.flat_lvals c.args.scopes.now) _ c.args.all.now c.loop-part.part-index _
    refl (laid-lvals _) gone c.loop-part.invariant
