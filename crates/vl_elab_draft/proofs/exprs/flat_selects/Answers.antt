use Rattle.std.proofs.Common.{◌≡◌, ◌+◌, [], ◌∷◌, arith, refl}
use Rattle.std.specs.Prelude.{drop}
use Rattle.std.proofs.lemmas.Grind.{common_steps}
use Rattle.vl_tree.specs.ExprView.{selects, with_select}
use Rattle.vl_mean_flat.specs.FullNames as spec
use Rattle.vl_elab_draft.proofs.Laid.{laid_on, laid_end, laid-selects}
use Rattle.vl_elab_draft.proofs.exprs.flat_selects.Goals as goal

pub loop-select-preserved : goal.loop-select-preserved
loop-select-preserved c =
    let front : drop c.loop-select.select-index c.args.all.now ≡ c.select-item.result
    ∷ drop (c.loop-select.select-index + 1) c.args.all.now = grind (arith, common_steps) in
    laid_on with_select selects
    (spec.flat_selects c.args.scopes.now) _ _ c.args.all.now _ _ c.loop-select.select-index _
    (λ y ys. refl) front c.in_ok-push.ensures.ok
    (c.in_ok-flat_select.ensures (selects (drop (c.loop-select.select-index + 1) c.args.all.now)))
    c.loop-select.invariant

pub returns : goal.returns
returns c =
    let gone : drop c.loop-select.select-index c.args.all.now ≡ [] = grind (arith, common_steps) in
    laid_end with_select selects (spec.flat_selects c.args.scopes.now) _ c.args.all.now c.loop-select.select-index _
    refl (laid-selects _) gone c.loop-select.invariant
