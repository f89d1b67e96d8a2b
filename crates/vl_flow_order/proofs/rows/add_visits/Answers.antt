use Rattle.vl_flow_order.proofs.Bucketing.{row_drivers}
use Rattle.vl_flow_order.proofs.ReadsReading.{visits_turn}
use Rattle.vl_flow_order.proofs.rows.add_visits.Goals as goal

pub add_row-requires-clause-drivers : goal.add_row-requires-clause-drivers
add_row-requires-clause-drivers c =
    row_drivers c.args.footprints.now c.args.buckets.now c.args.visits.now c.loop-visit.visit-index
    (record { group = 0; first = 0; past = 0 }) c.index-buckets-visit.result c.as_slice-row.result.now
    c.loop-visit-test.true c.requires.groups c.index-buckets-visit.is c.as_slice-row.ensures c.requires.drivers

pub loop-visit-preserved : goal.loop-visit-preserved
loop-visit-preserved c =
    visits_turn c.args.reader c.args.needs.now c.args.footprints.now c.args.buckets.now c.args.graph.now.items
    c.loop-visit.graph.items c.add_row.new.graph.items c.args.visits.now c.loop-visit.visit-index
    (record { group = 0; first = 0; past = 0 }) c.index-buckets-visit.result c.as_slice-row.result.now
    c.loop-visit-test.true c.requires.groups c.index-buckets-visit.is c.as_slice-row.ensures c.loop-visit.invariant
    c.in_ok-add_row.ensures
