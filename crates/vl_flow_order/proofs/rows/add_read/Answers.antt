use Rattle.std.proofs.Common.{refl, get_or}
use Rattle.std.proofs.lemmas.Option.{slice_get-get_or}
use Rattle.vl_flow_order.proofs.ReadsReading.{read_apart, read_met}
use Rattle.vl_flow_order.proofs.rows.add_read.Goals as goal

pub returns-in_ok-add_edge : goal.returns-in_ok-add_edge
returns-in_ok-add_edge c =
    let xs = c.args.footprints.now in
    let d = c.index-footprints-driver.result in
    let found = c.if-meets.ensures.some refl in
    read_met c.args.reader c.args.needs.now xs c.args.graph.now.items c.add_edge.new.graph.items c.args.driver
    (get_or xs c.args.driver d) c.args.visit found.0 found.1
    (slice_get-get_or xs c.args.driver d c.requires.driver) found.2 found.3 found.4 found.5 c.in_ok-add_edge.ensures

pub returns-else-meets : goal.returns-else-meets
returns-else-meets c =
    let xs = c.args.footprints.now in
    let d = c.index-footprints-driver.result in
    read_apart c.args.reader c.args.needs.now xs c.args.graph.now.items c.args.driver (get_or xs c.args.driver d)
    c.args.visit (slice_get-get_or xs c.args.driver d c.requires.driver) (c.if-meets.ensures.none refl)
