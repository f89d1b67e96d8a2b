use Rattle.std.proofs.Common.{◌∙◌, sym}
use Rattle.vl_flow_check.proofs.Firsts.{none_if, some_if, whether}
use Rattle.vl_flow_spec.specs.Paths.{any_kind}
use Rattle.vl_flow_spec.specs.Refusals.{assigns_to}
use Rattle.vl_flow_check.proofs.first.place_if.Goals as goal

pub returns-then-is_assigned : goal.returns-then-is_assigned
returns-then-is_assigned c ds d is at =
    let x = c.args.driver.now in
    some_if (assigns_to any_kind x.what d) x.pos
    (sym (whether ds x c.args.assigned.now c.args.place d is at) ∙ sym c.if-is_assigned.ensures)

pub returns : goal.returns
returns c ds d is at =
    let x = c.args.driver.now in
    none_if (assigns_to any_kind x.what d) x.pos
    (sym (whether ds x c.args.assigned.now c.args.place d is at) ∙ sym c.if-is_assigned.ensures)
