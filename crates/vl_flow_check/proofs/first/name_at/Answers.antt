use Rattle.std.proofs.Common.{◌∙◌, ap, sym}
use Rattle.vl_flow_spec.specs.Refusals.{with_name}
use Rattle.vl_flow_check.proofs.first.name_at.Goals as goal

pub driver_place-requires : goal.driver_place-requires
driver_place-requires c = c.requires.layout.assigned.size

pub returns-in_default : goal.returns-in_default
returns-in_default c d at =
    ap (with_name d.name) (sym c.in_default.is ∙ c.driver_place.ensures c.args.decls.now d c.requires.layout at)

pub returns : goal.returns
returns c d at =
    λ j. with_name (c.in_ok-name.ensures d at j)
    ((sym c.in-Some.is ∙ c.driver_place.ensures c.args.decls.now d c.requires.layout at) j)
