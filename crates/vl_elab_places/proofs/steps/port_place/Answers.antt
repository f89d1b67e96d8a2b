use Rattle.std.proofs.Common.{◌≡◌, ◌-◌, ◌∷◌, ◌++◌, ◌∙◌, ap, sym}
use Rattle.std.specs.Prelude.{Some, None, nat_lt, slice_get, if◌then◌else◌}
use Rattle.vl_elab_spec.specs.NodePlaces.{name_place, node_places, range_places, value_places}
use Rattle.vl_elab_places.specs.Passing.{moved, range_passed, value_passed}
use Rattle.vl_elab_places.proofs.Declared.{range_passes, value_passes}
use Rattle.vl_elab_places.proofs.Judging.{judged_large, judged_small, large_is, node_found}
use Rattle.vl_elab_places.proofs.Moved.{both_pass}
use Rattle.vl_elab_places.proofs.steps.port_place.Goals as goal

pub returns-then-is_past : goal.returns-then-is_past
returns-then-is_past c x t nodes_are name_is place nodes names known =
    let p = c.args.pos in
    let r = c.args.range.now in
    let v = c.args.value.now in
    let start = c.new-start.result in
    let node : c.pass_value-behind.result.found ≡ slice_get (node_places x) (4000000 - t.nodes) =
    node_found (p ∷ range_places r ++ value_places v) start c.pass_value-behind.result c.nodes_left.result (4000000 - t.nodes)
    c.new-start.ensures (c.nodes_left.ensures t known)
    (c.pass_value-behind.ensures
    ∙ ap (value_passed v) (c.pass_range-between.ensures ∙ ap (range_passed r) c.moved-at.ensures)
    ∙ both_pass (range_passed r) (value_passed v) (range_places r) (value_places v) (range_passes r) (value_passes v)
    (moved 1 p start))
    ∙ ap (λ ps. slice_get ps (4000000 - t.nodes)) (sym nodes_are) in
    let name : c.name_at-name.result ≡ name_place (200000 - t.names) x =
    c.name_at-name.ensures ∙ ap (λ n. if nat_lt n 1 then Some p else None) (c.names_left.ensures.left t known)
    ∙ sym (name_is (200000 - t.names)) in
    judged_large x t c.first_place.result c.is_past.result (c.is_past.ensures x t nodes names known) c.if-is_past.true
    (large_is x t c.first_place.result p c.pass_value-behind.result.found c.name_at-name.result (sym place) node name
    c.first_place.ensures)

pub returns-else-is_past : goal.returns-else-is_past
returns-else-is_past c x t nodes_are name_is place nodes names known =
    judged_small x t c.args.pos c.is_past.result (c.is_past.ensures x t nodes names known) c.if-is_past.false
    (sym place)
