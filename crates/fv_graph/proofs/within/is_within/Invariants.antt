use Rattle.fv_graph.proofs.AllRows.{AreWithin}
use Rattle.fv_graph.proofs.within.is_within.Given as goal

abbrev pub invariant-loop-row : goal.invariant-loop-row
invariant-loop-row l = AreWithin l.graph l.row-index
