use Rattle.std.proofs.Common.{◌≡◌, ◌+◌, ◌++◌, [], ◌∷◌, ap, arith}
use Rattle.std.specs.Prelude.{drop}
use Rattle.std.proofs.lemmas.Grind.{common_steps}
use Rattle.vl_tree.specs.Item.{items}
use Rattle.vl_mean.specs.Declarations.{all_names, names_of}
use Rattle.vl_elab_names.proofs.Ahead.{on, ended}
use Rattle.vl_elab_names.proofs.scope_names_labels.add_items.Goals as goal

pub loop-item-preserved : goal.loop-item-preserved
loop-item-preserved c =
    let rest = drop (c.loop-item.item-index + 1) c.args.all.now in
    let front : drop c.loop-item.item-index c.args.all.now ≡ c.item-item.result
    ∷ drop (c.loop-item.item-index + 1) c.args.all.now = grind (arith, common_steps) in
    on c.loop-item.names c.add_item.new.names (names_of c.item-item.result)
    (all_names (items rest))
    (all_names (items (drop c.loop-item.item-index c.args.all.now)))
    (c.args.names.now ++ all_names (items c.args.all.now))
    c.in_ok-add_item.ensures (ap (λ xs. all_names (items xs)) front) c.loop-item.invariant

pub returns : goal.returns
returns c =
    let gone : drop c.loop-item.item-index c.args.all.now ≡ [] = grind (arith, common_steps) in
    ended c.loop-item.names (all_names (items (drop c.loop-item.item-index c.args.all.now)))
    (c.args.names.now ++ all_names (items c.args.all.now))
    (ap (λ xs. all_names (items xs)) gone) c.loop-item.invariant
