use Rattle.std.proofs.Common.{◌≡◌, ◌-◌, ◌++◌, ◌∙◌, ap, sym, subst}
use Rattle.std.specs.Prelude.{drop, slice_get}
use Rattle.vl_mean.specs.Walk.{item}
use Rattle.vl_elab_spec.specs.Counts.{item_pos}
use Rattle.vl_elab_spec.specs.NodePlaces.{inner_places, name_place, own_places}
use Rattle.vl_elab_const.specs.Numbers.{HaveNumbers}
use Rattle.vl_elab_places.specs.Passing.{passed}
use Rattle.vl_elab_places.proofs.InnerPlaces.{shown_pos}
use Rattle.vl_elab_places.proofs.Declared.{own_passes}
use Rattle.vl_elab_places.proofs.Judging.{large_is, node_found}
use Rattle.vl_elab_places.proofs.Moved.{passed_append}
use Rattle.vl_elab_places.proofs.steps.large_item.Goals as goal

pub returns-clause-place : goal.returns-clause-place
returns-clause-place c at t same agree around known =
    let x = c.args.item.now in
    let inside = c.item.inside in
    let start = c.new-start.result in
    let node : c.in_ok-behind.behind.found ≡ slice_get (own_places x ++ inner_places at x) (4000000 - t.nodes) =
    node_found (own_places x ++ inner_places at x) start c.in_ok-behind.behind c.nodes_left.result (4000000 - t.nodes)
    c.new-start.ensures (c.nodes_left.ensures t known)
    (c.in_ok-behind.ensures.behind at same agree
    ∙ ap (passed (inner_places at x)) (c.pass_item-own.ensures ∙ own_passes x start)
    ∙ sym (passed_append (own_places x) (inner_places at x) start)) in
    let name : c.in_ok-name.name ≡ name_place (200000 - t.names) (item at x) =
    c.in_ok-name.ensures.place at (subst (λ ns. HaveNumbers (drop 1 ns) at.around) (sym c.in_ok-behind.ensures.numbers)
    around) ∙ ap (λ n. name_place n (item at x)) (c.names_left.ensures.left t known) in
    large_is (item at x) t c.first_place.result inside.pos c.in_ok-behind.behind.found c.in_ok-name.name
    (sym (shown_pos inside.attributes inside.pos inside.kind) ∙ ap item_pos c.item.view_is) node name
    c.first_place.ensures
