use Rattle.vl_flow_order.specs.CellGroups.{AreGroupsBelow}
use Rattle.vl_flow_order.proofs.order_groups.groups_of.Given as goal

abbrev pub invariant-loop-index : goal.invariant-loop-index
invariant-loop-index l = AreGroupsBelow l.decls l.index l.of_cells l.ends
