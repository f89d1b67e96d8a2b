use Rattle.vl_flow.proofs.one_map.each_choice_has_one_map.Goals as goal

pub returns-clause-some : goal.returns-clause-some
returns-clause-some c =
    let o = c.args.ordered.now in
    let table = c.len-count.ensures in
    c.each_choice_has_a_map.ensures o.flat.decls o.flat.drivers o.flat.starts table.shaped table.different
    table.apart o.flat.lawful o.accepted o.sequence o.in_order

pub returns-clause-one : goal.returns-clause-one
returns-clause-one c =
    let o = c.args.ordered.now in
    let table = c.len-count.ensures in
    c.a_choice_has_one_map.ensures o.flat.decls o.flat.drivers o.flat.starts table.shaped table.different
    table.apart o.flat.lawful o.accepted o.sequence o.in_order
