use Rattle.lrat_check.proofs.Moving.{Begins}
use Rattle.lrat_check.proofs.pack.packed_starts.Given as goal

abbrev pub invariant-loop-place : goal.invariant-loop-place
invariant-loop-place l = Begins l.starts l.held l.end l.place l.from l.packed.items
