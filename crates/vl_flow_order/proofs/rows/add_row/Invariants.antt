use Rattle.vl_flow_order.specs.Reads.{AddsRow}
use Rattle.vl_flow_order.proofs.rows.add_row.Given as goal

abbrev pub invariant-loop-driver : goal.invariant-loop-driver
invariant-loop-driver l =
    AddsRow l.reader l.needs l.footprints l.row l.driver-index l.visit l.initial.graph.items l.graph.items
