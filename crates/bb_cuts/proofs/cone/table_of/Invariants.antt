use Rattle.bb_cuts.proofs.Cones.{AreMarked}
use Rattle.bb_cuts.proofs.cone.table_of.Given as goal

abbrev pub invariant-loop-gate : goal.invariant-loop-gate
invariant-loop-gate l = AreMarked l.aig l.leaves l.marks.items
