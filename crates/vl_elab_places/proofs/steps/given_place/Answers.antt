use Rattle.std.proofs.Common.{◌≡◌, ◌-◌, ◌∷◌, ◌∙◌, ap, sym}
use Rattle.std.specs.Prelude.{None, slice_get}
use Rattle.vl_elab_spec.specs.NodePlaces.{node_places, value_places}
use Rattle.vl_elab_places.specs.Passing.{moved, value_passed}
use Rattle.vl_elab_places.proofs.Declared.{value_passes}
use Rattle.vl_elab_places.proofs.Judging.{judged_large, judged_small, large_is, node_found}
use Rattle.vl_elab_places.proofs.steps.given_place.Goals as goal

pub returns-then-is_past : goal.returns-then-is_past
returns-then-is_past c x t nodes_are no_name place nodes names known =
    let p = c.args.pos in
    let v = c.args.value.now in
    let node : c.pass_value-behind.result.found ≡ slice_get (node_places x) (4000000 - t.nodes) =
    node_found (p ∷ value_places v) c.new-start.result c.pass_value-behind.result c.nodes_left.result (4000000 - t.nodes)
    c.new-start.ensures (c.nodes_left.ensures t known)
    (c.pass_value-behind.ensures ∙ ap (value_passed v) c.moved-at.ensures ∙ value_passes v (moved 1 p c.new-start.result))
    ∙ ap (λ ps. slice_get ps (4000000 - t.nodes)) (sym nodes_are) in
    judged_large x t c.first_place.result c.is_past.result (c.is_past.ensures x t nodes names known) c.if-is_past.true
    (large_is x t c.first_place.result p c.pass_value-behind.result.found None (sym place) node
    (sym (no_name (200000 - t.names))) c.first_place.ensures)

pub returns-else-is_past : goal.returns-else-is_past
returns-else-is_past c x t nodes_are no_name place nodes names known =
    judged_small x t c.args.pos c.is_past.result (c.is_past.ensures x t nodes names known) c.if-is_past.false
    (sym place)
