use Rattle.std.proofs.Common.{◌≡◌, ◌+◌, [], ◌∷◌, ap, arith}
use Rattle.std.specs.Prelude.{drop}
use Rattle.std.proofs.lemmas.Grind.{common_steps}
use Rattle.vl_elab_const.specs.Given.{value_given}
use Rattle.vl_tree.specs.Item.{items}
use Rattle.vl_mean.specs.Declarations.{with_items_parameters}
use Rattle.vl_elab_flatten.proofs.Adding.{items_first, items_last, items_on}
use Rattle.vl_elab_flatten.proofs.constants.add_items.Goals as goal

pub loop-item-init : goal.loop-item-init
loop-item-init c os ss path cs outer g h d has =
    items_first (value_given c.args.given.now) os ss path outer g h cs c.args.all.now c.args.scope.now
    c.args.numbers.now d has

pub loop-item-preserved : goal.loop-item-preserved
loop-item-preserved c os ss path cs outer g h d has =
    let rest = drop (c.loop-item.item-index + 1) c.args.all.now in
    let front : drop c.loop-item.item-index c.args.all.now ≡ c.item-item.result
    ∷ drop (c.loop-item.item-index + 1) c.args.all.now = grind (arith, common_steps) in
    items_on (value_given c.args.given.now) os ss path outer g h
    (with_items_parameters os ss cs (items c.args.all.now)) c.loop-item.scope
    c.add_item.new.scope c.loop-item.numbers c.add_item.new.numbers c.item-item.result
    rest (drop c.loop-item.item-index c.args.all.now)
    front c.in_ok-add_item.ensures (c.loop-item.invariant os ss path cs outer g h d has)

pub returns : goal.returns
returns c os ss path cs outer g h d has =
    let gone : drop c.loop-item.item-index c.args.all.now ≡ [] = grind (arith, common_steps) in
    items_last (value_given c.args.given.now) os ss path outer g h
    (with_items_parameters os ss cs (items c.args.all.now)) c.loop-item.scope
    c.loop-item.numbers (drop c.loop-item.item-index c.args.all.now)
    gone (c.loop-item.invariant os ss path cs outer g h d has)
