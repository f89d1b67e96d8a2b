use Rattle.vl_flow_order.specs.Buckets.{AddsDriver}
use Rattle.vl_flow_order.proofs.buckets.add_driver.Given as goal

abbrev pub invariant-loop-visit : goal.invariant-loop-visit
invariant-loop-visit l = AddsDriver l.initial.buckets.items l.visits l.visit-index l.driver l.buckets.items
