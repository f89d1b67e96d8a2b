use Rattle.std.proofs.Common.{◌≡◌, ◌∙◌, ◌+◌, [], ◌∷◌, ap, sym, arith}
use Rattle.std.specs.Prelude.{drop}
use Rattle.std.proofs.lemmas.Grind.{common_steps}
use Rattle.vl_tree.specs.Item.{items}
use Rattle.vl_elab_spec.specs.Meanings.{item_names, items_names}
use Rattle.vl_elab_params.specs.Shadows.{with_shadows}
use Rattle.vl_elab_params.proofs.Shadowing.{shadows_append}
use Rattle.vl_elab_params.proofs.shadow_names.shadows.Goals as goal

pub loop-item-init : goal.loop-item-init
loop-item-init c =
    ap (λ l. with_shadows c.args.names.now c.args.around.now l (items_names (items c.args.all.now))) c.new-level.ensures

pub loop-item-preserved : goal.loop-item-preserved
loop-item-preserved c =
    let names = c.args.names.now in
    let around = c.args.around.now in
    let rest = drop (c.loop-item.item-index + 1) c.args.all.now in
    let front : drop c.loop-item.item-index c.args.all.now ≡ c.item-item.result
    ∷ drop (c.loop-item.item-index + 1) c.args.all.now = grind (arith, common_steps) in
    ap (λ l. with_shadows names around l (items_names (items rest))) c.in_ok-add_item.ensures
    ∙ sym (shadows_append names around c.loop-item.level (item_names c.item-item.result) (items_names (items rest)))
    ∙ ap (λ xs. with_shadows names around c.loop-item.level (items_names (items xs))) (sym front)
    ∙ c.loop-item.invariant

pub returns : goal.returns
returns c =
    let names = c.args.names.now in
    let around = c.args.around.now in
    let gone : drop c.loop-item.item-index c.args.all.now ≡ [] = grind (arith, common_steps) in
    ap (λ xs. with_shadows names around c.loop-item.level (items_names (items xs))) (sym gone) ∙ c.loop-item.invariant
