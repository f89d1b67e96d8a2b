use Rattle.wn_opt.proofs.Walking.{AreWritesMarked}
use Rattle.wn_opt.proofs.marks.Marks.mark_writes.Given as goal

abbrev pub invariant-loop-write : goal.invariant-loop-write
invariant-loop-write l = AreWritesMarked l.net l.roots l.initial.self l.self l.writes l.write-index
