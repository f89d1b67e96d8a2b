use Rattle.std.proofs.lemmas.Option.{slice_get-get_or}
use Rattle.vl_flow_order.proofs.ReadsReading.{row_more}
use Rattle.vl_flow_order.proofs.rows.add_row.Goals as goal

pub loop-driver-preserved : goal.loop-driver-preserved
loop-driver-preserved c =
    row_more c.args.reader c.args.needs.now c.args.footprints.now c.args.graph.now.items c.loop-driver.graph.items
    c.add_read.new.graph.items c.args.row.now c.loop-driver.driver-index _ c.args.visit
    (slice_get-get_or c.args.row.now c.loop-driver.driver-index 0 c.loop-driver-test.true) c.loop-driver.invariant
    c.in_ok-add_read.ensures
