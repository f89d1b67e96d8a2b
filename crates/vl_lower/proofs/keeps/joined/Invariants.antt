use Rattle.vl_lower.proofs.KeepingJoining.{AreJoinedBelow}
use Rattle.vl_lower.proofs.keeps.joined.Given as goal

abbrev pub invariant-loop-cell : goal.invariant-loop-cell
invariant-loop-cell l = AreJoinedBelow l.driven l.known l.values l.keeps l.cell
