use Rattle.vl_flow_order.specs.Reads.{AreReaders}
use Rattle.vl_flow_order.proofs.rows.reading_graph.Given as goal

abbrev pub invariant-loop-reader : goal.invariant-loop-reader
invariant-loop-reader l = AreReaders l.groups l.footprints l.reader l.graph.items
