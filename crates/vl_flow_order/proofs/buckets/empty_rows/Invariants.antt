use Rattle.std.proofs.Common.{◌≤◌, ◌-◌, length}
use Rattle.vl_flow_order.proofs.Bucketing.{NoEdges}
use Rattle.vl_flow_order.proofs.buckets.empty_rows.Given as goal

abbrev pub invariant-rows : goal.invariant-rows
invariant-rows l = record { none : NoEdges l.rows.items; few : length l.rows.items ≤ l.count }

abbrev pub decreases-rows : goal.decreases-rows
decreases-rows l = l.count - length l.rows.items
