use Rattle.vl_flow_order.specs.Buckets.{AreBuckets}
use Rattle.vl_flow_order.proofs.buckets.buckets_of.Given as goal

abbrev pub invariant-loop-driver : goal.invariant-loop-driver
invariant-loop-driver l = AreBuckets l.groups l.footprints l.driver l.buckets.items
