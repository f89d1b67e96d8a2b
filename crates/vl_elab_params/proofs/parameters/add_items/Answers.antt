use Rattle.std.proofs.Common.{◌≡◌, ◌∙◌, ◌+◌, [], ◌∷◌, ap, sym, arith}
use Rattle.std.specs.Prelude.{drop}
use Rattle.std.proofs.lemmas.Grind.{common_steps}
use Rattle.vl_tree.specs.Item.{items}
use Rattle.vl_elab_const.specs.Given.{value_given}
use Rattle.vl_elab_params.specs.Entered.{stacks, with_items}
use Rattle.vl_elab_params.proofs.parameters.add_items.Goals as goal

pub loop-item-preserved : goal.loop-item-preserved
loop-item-preserved c =
    let given = value_given c.args.given.now in
    let front : drop c.loop-item.item-index c.args.all.now ≡ c.item-item.result
    ∷ drop (c.loop-item.item-index + 1) c.args.all.now = grind (arith, common_steps) in
    ap (λ s. with_items given s (items (drop (c.loop-item.item-index + 1) c.args.all.now))) c.in_ok-add_item.ensures
    ∙ ap (λ xs. with_items given (stacks c.loop-item.names c.loop-item.numbers) (items xs)) (sym front)
    ∙ c.loop-item.invariant

pub returns : goal.returns
returns c =
    let given = value_given c.args.given.now in
    let gone : drop c.loop-item.item-index c.args.all.now ≡ [] = grind (arith, common_steps) in
    ap (λ xs. with_items given (stacks c.loop-item.names c.loop-item.numbers) (items xs)) (sym gone)
    ∙ c.loop-item.invariant
