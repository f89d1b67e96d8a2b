use Rattle.std.proofs.Common.{◌≡◌, ◌∙◌, ◌+◌, [], ◌∷◌, arith, refl, ap}
use Rattle.std.specs.Prelude.{drop}
use Rattle.std.proofs.lemmas.Grind.{common_steps}
use Rattle.vl_tree.specs.Expr.{Exprs, exprs, more}
use Rattle.vl_tree.specs.ExprView.{selects, with_select}
use Rattle.vl_mean.specs.Constants.{settled_exprs}
use Rattle.vl_mean.specs.Scopes.{constant_in, full}
use Rattle.vl_mean_flat.specs.FullNames as spec
use Rattle.vl_elab_draft.proofs.Laid.{laid_on, laid_end, laid-exprs, laid-selects}
use Rattle.vl_elab_draft.proofs.Settling.{selected_flat}
use Rattle.vl_elab_draft.proofs.exprs.+flat.Goals as goal

pub flat_parts-loop-part-preserved : goal.flat_parts-loop-part-preserved
flat_parts-loop-part-preserved t c =
    let front : drop c.loop-part.part-index c.args.all.now ≡ c.part-item.result
    ∷ drop (c.loop-part.part-index + 1) c.args.all.now = grind (arith, common_steps) in
    let ss = c.args.scopes.now in
    let made = λ (es : Exprs). spec.renamed_exprs (full ss) (settled_exprs (constant_in ss) es) in
    laid_on more exprs made _ _ c.args.all.now _ _ c.loop-part.part-index _
    (λ y ys. refl) front c.in_ok-push.ensures.ok
    (ap (λ x. more x (made (exprs (drop (c.loop-part.part-index + 1) c.args.all.now)))) c.in_ok-flat_expr.ensures)
    c.loop-part.invariant

pub flat_parts-returns : goal.flat_parts-returns
flat_parts-returns t c =
    let gone : drop c.loop-part.part-index c.args.all.now ≡ [] = grind (arith, common_steps) in
    let ss = c.args.scopes.now in
    laid_end more exprs (λ es. spec.renamed_exprs (full ss) (settled_exprs (constant_in ss) es)) _ c.args.all.now
    c.loop-part.part-index _ refl (laid-exprs _) gone c.loop-part.invariant

pub flat_selected-loop-select-preserved : goal.flat_selected-loop-select-preserved
flat_selected-loop-select-preserved t c =
    let front : drop c.loop-select.select-index c.args.all.now ≡ c.select-item.result
    ∷ drop (c.loop-select.select-index + 1) c.args.all.now = grind (arith, common_steps) in
    laid_on with_select selects (spec.flat_selects c.args.scopes.now) _ _ c.args.all.now _ _ c.loop-select.select-index _
    (λ y ys. refl) front c.in_ok-push.ensures.ok
    (c.in_ok-flat_select.ensures (selects (drop (c.loop-select.select-index + 1) c.args.all.now)))
    c.loop-select.invariant

pub flat_selected-returns : goal.flat_selected-returns
flat_selected-returns t c =
    let gone : drop c.loop-select.select-index c.args.all.now ≡ [] = grind (arith, common_steps) in
    let ss = c.args.scopes.now in
    let all = selects c.args.all.now in
    c.named.ensures
    ∙ selected_flat ss c.args.pos c.args.text.now c.in_ok-name.name (selects c.loop-select.parts) all c.requires
    c.in_ok-name.ensures
    (laid_end with_select selects (spec.flat_selects ss) c.loop-select.parts c.args.all.now c.loop-select.select-index
    (spec.flat_selects ss all) refl (laid-selects c.loop-select.parts) gone c.loop-select.invariant)
