use Rattle.std.proofs.Common.{◌≡◌, ◌+◌, ◌++◌, [], ◌∷◌, ap, arith}
use Rattle.std.specs.Prelude.{drop}
use Rattle.std.proofs.lemmas.Grind.{common_steps}
use Rattle.vl_tree.specs.Item.{items}
use Rattle.vl_mean.specs.Declarations.{declared, declared_by}
use Rattle.vl_elab_const.specs.Openable.{IsInRange}
use Rattle.vl_elab_decls.proofs.Going.{goes_first, goes_last, goes_on}
use Rattle.vl_elab_decls.proofs.decls_items.add_items.Goals as goal

pub loop-item-init : goal.loop-item-init
loop-item-init c ss h k = goes_first IsInRange c.args.decls.now (declared ss (items c.args.all.now)) k

pub loop-item-preserved : goal.loop-item-preserved
loop-item-preserved c ss h k =
    let x = c.item-item.result in
    let rest = drop (c.loop-item.item-index + 1) c.args.all.now in
    let front : drop c.loop-item.item-index c.args.all.now ≡ c.item-item.result
    ∷ drop (c.loop-item.item-index + 1) c.args.all.now = grind (arith, common_steps) in
    goes_on IsInRange (c.args.decls.now ++ declared ss (items c.args.all.now)) c.loop-item.decls
    c.add_item.new.decls (declared_by ss x) (declared ss (items rest))
    (declared ss (items (drop c.loop-item.item-index c.args.all.now))) (ap (λ xs. declared ss (items xs)) front)
    (c.in_ok-add_item.ensures ss h) (c.loop-item.invariant ss h k)

pub returns : goal.returns
returns c ss h k =
    let gone : drop c.loop-item.item-index c.args.all.now ≡ [] = grind (arith, common_steps) in
    goes_last IsInRange (c.args.decls.now ++ declared ss (items c.args.all.now)) c.loop-item.decls
    (declared ss (items (drop c.loop-item.item-index c.args.all.now))) (ap (λ xs. declared ss (items xs)) gone)
    (c.loop-item.invariant ss h k)
