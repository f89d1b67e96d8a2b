use Rattle.std.proofs.Common.{◌≡◌, ◌∙◌, ◌+◌, [], ◌∷◌, ap, sym, arith}
use Rattle.std.specs.Prelude.{drop}
use Rattle.std.proofs.lemmas.Grind.{common_steps}
use Rattle.vl_tree.specs.Item.{items}
use Rattle.vl_elab_spec.specs.Meanings.{parameters_of}
use Rattle.vl_elab_params.specs.Entered.{with_later}
use Rattle.vl_elab_params.proofs.LaterNames.{later_append}
use Rattle.vl_elab_params.specs.Passed.{item_parameters}
use Rattle.vl_elab_params.proofs.Passing.{parameters_first}
use Rattle.vl_elab_params.proofs.pending.add_items.Goals as goal

pub loop-item-preserved : goal.loop-item-preserved
loop-item-preserved c =
    let rest = drop (c.loop-item.item-index + 1) c.args.all.now in
    let front : drop c.loop-item.item-index c.args.all.now ≡ c.item-item.result
    ∷ drop (c.loop-item.item-index + 1) c.args.all.now = grind (arith, common_steps) in
    ap (λ l. with_later l (parameters_of (items rest))) c.in_ok-add_item.ensures
    ∙ sym (later_append c.loop-item.level (item_parameters c.item-item.result) (parameters_of (items rest)))
    ∙ ap (with_later c.loop-item.level) (sym (parameters_first c.item-item.result (items rest)))
    ∙ ap (λ xs. with_later c.loop-item.level (parameters_of (items xs))) (sym front) ∙ c.loop-item.invariant

pub returns : goal.returns
returns c =
    let gone : drop c.loop-item.item-index c.args.all.now ≡ [] = grind (arith, common_steps) in
    ap (λ xs. with_later c.loop-item.level (parameters_of (items xs))) (sym gone) ∙ c.loop-item.invariant
