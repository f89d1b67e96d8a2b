use Rattle.std.proofs.Common.{◌≡◌, ◌+◌, [], ◌∷◌, arith, refl, ap}
use Rattle.std.specs.Prelude.{drop}
use Rattle.std.proofs.lemmas.Grind.{common_steps}
use Rattle.vl_mean_flat.specs.FullNames as spec
use Rattle.vl_elab_draft.proofs.Laid.{laid_on, laid_end, laid-list}
use Rattle.vl_elab_draft.proofs.exprs.flat_exprs.Goals as goal

pub loop-part-preserved : goal.loop-part-preserved
loop-part-preserved c =
    let front : drop c.loop-part.part-index c.args.all.now ≡ c.part-item.result
    ∷ drop (c.loop-part.part-index + 1) c.args.all.now = grind (arith, common_steps) in
    laid_on (λ x l. x ∷ l) (λ l. l)
    (spec.flat_exprs c.args.scopes.now) _ _ c.args.all.now _ _ c.loop-part.part-index _
    (λ y ys. refl) front c.in_ok-push.ensures.ok
    (ap (λ x. x ∷ spec.flat_exprs c.args.scopes.now ((drop
    (c.loop-part.part-index + 1) c.args.all.now))) c.in_ok-flat_expr.ensures)
    c.loop-part.invariant

pub returns : goal.returns
returns c =
    let gone : drop c.loop-part.part-index c.args.all.now ≡ [] = grind (arith, common_steps) in
    laid_end (λ x l. x ∷ l) (λ l. l) (spec.flat_exprs c.args.scopes.now) _ c.args.all.now c.loop-part.part-index _
    refl (laid-list _) gone c.loop-part.invariant
