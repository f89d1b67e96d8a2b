use Rattle.std.proofs.Common.{◌≡◌, ◌+◌, [], ◌∷◌, arith, refl, ap}
use Rattle.std.specs.Prelude.{drop}
use Rattle.std.proofs.lemmas.Grind.{common_steps}
use Rattle.vl_tree.specs.Expr.{exprs, more}
use Rattle.vl_tree.specs.ExprView.{selects, with_select}
use Rattle.vl_mean.specs.Scopes.{full}
use Rattle.vl_mean_flat.specs.FullNames as spec
use Rattle.vl_elab_draft.proofs.Laid.{laid_on, laid_end, laid-exprs, laid-selects}
use Rattle.vl_elab_draft.proofs.names.+renamed.Goals as goal

pub renamed_parts-loop-part-preserved : goal.renamed_parts-loop-part-preserved
renamed_parts-loop-part-preserved t c =
    let front : drop c.loop-part.part-index c.args.all.now ≡ c.part-item.result
    ∷ drop (c.loop-part.part-index + 1) c.args.all.now = grind (arith, common_steps) in
    laid_on more exprs (spec.renamed_exprs (full c.args.scopes.now)) _ _ c.args.all.now _ _ c.loop-part.part-index _
    (λ y ys. refl) front c.in_ok-push.ensures.ok
    (ap (λ x. more x (spec.renamed_exprs (full c.args.scopes.now) (exprs (drop
    (c.loop-part.part-index + 1) c.args.all.now)))) c.in_ok-renamed.ensures)
    c.loop-part.invariant

pub renamed_parts-returns : goal.renamed_parts-returns
renamed_parts-returns t c =
    let gone : drop c.loop-part.part-index c.args.all.now ≡ [] = grind (arith, common_steps) in
    laid_end more exprs (spec.renamed_exprs (full c.args.scopes.now)) _ c.args.all.now c.loop-part.part-index _
    refl (laid-exprs _) gone c.loop-part.invariant

pub renamed_selects-loop-select-preserved : goal.renamed_selects-loop-select-preserved
renamed_selects-loop-select-preserved t c =
    let front : drop c.loop-select.select-index c.args.all.now ≡ c.select-item.result
    ∷ drop (c.loop-select.select-index + 1) c.args.all.now = grind (arith, common_steps) in
    laid_on with_select selects (spec.renamed_selects
    (full c.args.scopes.now)) _ _ c.args.all.now _ _ c.loop-select.select-index _
    (λ y ys. refl) front c.in_ok-push.ensures.ok
    (c.in_ok-renamed_select.ensures (selects (drop (c.loop-select.select-index + 1) c.args.all.now)))
    c.loop-select.invariant

pub renamed_selects-returns : goal.renamed_selects-returns
renamed_selects-returns t c =
    let gone : drop c.loop-select.select-index c.args.all.now ≡ [] = grind (arith, common_steps) in
    laid_end with_select selects (spec.renamed_selects
    (full c.args.scopes.now)) _ c.args.all.now c.loop-select.select-index _
    refl (laid-selects _) gone c.loop-select.invariant
