use Rattle.std.proofs.Common.{◌≡◌, ◌∙◌, ap, sym}
use Rattle.std.proofs.lemmas.Result.{IfOk-weaker}
use Rattle.vl_tree.specs.Item.{for_loop}
use Rattle.vl_tree.specs.ItemView.{block, shown}
use Rattle.vl_mean.specs.Walk.{Place}
use Rattle.vl_elab_spec.specs.Meanings.{meanings_at}
use Rattle.vl_elab_spec.specs.NodePlaces.{inner_places, loop_places}
use Rattle.vl_elab_scope.specs.Alike.{Alike}
use Rattle.vl_elab_const.specs.Numbers.{HaveNumbers}
use Rattle.vl_elab_places.specs.Passing.{passed}
use Rattle.vl_elab_places.proofs.InnerPlaces.{inner_of}
use Rattle.vl_elab_places.proofs.blocks.pass_inner.Goals as goal

pub returns-in-For-clause-behind : goal.returns-in-For-clause-behind
returns-in-For-clause-behind c =
    let attrs = c.item.inside.attributes in
    let p = c.item.inside.pos in
    let head = c.in-For.head in
    let ns = c.args.names.now in
    let numbers = c.args.numbers.now in
    let start = c.args.start in
    let x = c.args.item.now in
    IfOk-weaker c.pass_loop.result
    (λ r. (at : Place) → Alike ns (meanings_at at) → HaveNumbers numbers at.scopes
    → r ≡ passed (loop_places head at) start)
    (λ r. (at : Place) → Alike ns (meanings_at at) → HaveNumbers numbers at.scopes
    → r ≡ passed (inner_places at x) start)
    (λ r made at same agree. inner_of at x (for_loop attrs p head (block c.in-For.field-1)) r start
    (sym c.item.view_is ∙ ap (shown attrs p) c.in-For.is) (made at same agree))
    c.pass_loop.ensures.behind
