use Rattle.vl_flow_order.specs.Reads.{AddsVisits}
use Rattle.vl_flow_order.proofs.rows.add_visits.Given as goal

abbrev pub invariant-loop-visit : goal.invariant-loop-visit
invariant-loop-visit l =
    AddsVisits l.reader l.needs l.footprints l.buckets l.visits l.visit-index l.initial.graph.items l.graph.items
