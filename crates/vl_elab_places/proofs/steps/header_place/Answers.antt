use Rattle.std.proofs.Common.{◌≡◌, ◌-◌, ◌∷◌, [], ◌∙◌, ap, sym}
use Rattle.std.specs.Prelude.{None, slice_get}
use Rattle.vl_elab_spec.specs.NodePlaces.{node_places, parameter_places}
use Rattle.vl_elab_places.proofs.Declared.{parameters_pass}
use Rattle.vl_elab_places.proofs.Judging.{judged_large, judged_small, large_is, node_found}
use Rattle.vl_elab_places.proofs.steps.header_place.Goals as goal

pub returns-then-is_past : goal.returns-then-is_past
returns-then-is_past c x t nodes_are no_name place nodes names known =
    let q = c.args.parameter.now in
    let node : c.pass_parameter-behind.result.found ≡ slice_get (node_places x) (4000000 - t.nodes) =
    node_found (parameter_places (q ∷ [])) c.new-start.result c.pass_parameter-behind.result c.nodes_left.result
    (4000000 - t.nodes) c.new-start.ensures (c.nodes_left.ensures t known)
    (c.pass_parameter-behind.ensures ∙ parameters_pass (q ∷ []) c.new-start.result)
    ∙ ap (λ ps. slice_get ps (4000000 - t.nodes)) (sym nodes_are) in
    judged_large x t c.first_place.result c.is_past.result (c.is_past.ensures x t nodes names known) c.if-is_past.true
    (large_is x t c.first_place.result q.pos c.pass_parameter-behind.result.found None (sym place) node
    (sym (no_name (200000 - t.names))) c.first_place.ensures)

pub returns-else-is_past : goal.returns-else-is_past
returns-else-is_past c x t nodes_are no_name place nodes names known =
    judged_small x t c.args.parameter.now.pos c.is_past.result (c.is_past.ensures x t nodes names known)
    c.if-is_past.false (sym place)
