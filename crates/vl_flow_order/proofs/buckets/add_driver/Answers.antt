use Rattle.vl_flow_order.proofs.Bucketing.{adds_one}
use Rattle.vl_flow_order.proofs.buckets.add_driver.Goals as goal

pub loop-visit-preserved : goal.loop-visit-preserved
loop-visit-preserved c =
    adds_one c.args.buckets.now.items c.loop-visit.buckets.items c.add_edge.new.graph.items c.args.visits.now
    c.loop-visit.visit-index c.args.driver _ c.loop-visit-test.true c.loop-visit.invariant
    c.in_ok-add_edge.ensures
