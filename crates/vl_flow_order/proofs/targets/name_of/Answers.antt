use Rattle.std.proofs.Common.{◌∙◌, sym}
use Rattle.vl_flow_order.proofs.Marks.{mark_is}
use Rattle.vl_flow_order.proofs.Naming.{one_named, unknown_named}
use Rattle.vl_flow_order.proofs.targets.name_of.Goals as goal

pub returns-in-None : goal.returns-in-None
returns-in-None c =
    unknown_named c.args.decls.now c.args.text.now _ c.len-count.ensures.different
    (sym c.find.ensures ∙ c.in-None.is) c.none.ensures

pub returns-in_ok-of_cells-in-Some : goal.returns-in_ok-of_cells-in-Some
returns-in_ok-of_cells-in-Some c =
    let made = c.in_ok-of_cells-in-Some.ensures in
    one_named c.args.decls.now c.args.text.now c.in-Some.place c.in_ok-of_cells-in-Some.field-0
    c.len-count.ensures.different (sym c.find.ensures ∙ c.in-Some.is)
    (mark_is c.in_ok-of_cells-in-Some.field-0 c.in-Some.place c.from-first.result c.from-first.ensures made.inside
    made.before made.behind)
