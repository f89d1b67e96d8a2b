use Rattle.vl_flow_order.specs.CellGroups.{PutsCells}
use Rattle.vl_flow_order.proofs.order_groups.put_cells.Given as goal

abbrev pub invariant-loop-turn : goal.invariant-loop-turn
invariant-loop-turn l = PutsCells l.initial.of_cells l.group l.turn l.of_cells
