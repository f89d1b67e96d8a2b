use Rattle.std.proofs.Common.{◌≡◌, ◌∙◌, ◌+◌, [], ◌∷◌, ap, sym, arith}
use Rattle.std.specs.Prelude.{drop}
use Rattle.std.proofs.lemmas.Grind.{common_steps}
use Rattle.vl_tree.specs.Item.{items}
use Rattle.vl_elab_decls.specs.Hidden.{with_hidden_items}
use Rattle.vl_elab_decls.proofs.hidden.hidden_names.Goals as goal

pub loop-item-init : goal.loop-item-init
loop-item-init c = ap (λ l. with_hidden_items c.args.values.now l (items c.args.all.now)) c.new-level.ensures

pub loop-item-preserved : goal.loop-item-preserved
loop-item-preserved c =
    let front : drop c.loop-item.item-index c.args.all.now ≡ c.item-item.result
    ∷ drop (c.loop-item.item-index + 1) c.args.all.now = grind (arith, common_steps) in
    ap (λ s. with_hidden_items c.args.values.now s (items (drop (c.loop-item.item-index + 1) c.args.all.now)))
    c.in_ok-add_item.ensures
    ∙ ap (λ xs. with_hidden_items c.args.values.now c.loop-item.level (items xs)) (sym front) ∙ c.loop-item.invariant

pub returns : goal.returns
returns c =
    let gone : drop c.loop-item.item-index c.args.all.now ≡ [] = grind (arith, common_steps) in
    ap (λ xs. with_hidden_items c.args.values.now c.loop-item.level (items xs)) (sym gone) ∙ c.loop-item.invariant
