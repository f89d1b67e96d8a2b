use Rattle.bm_unroll.proofs.Chaining.{Chaining}
use Rattle.bm_unroll.proofs.words.next_chain.Given as goal

abbrev pub invariant-loop-write : goal.invariant-loop-write
invariant-loop-write l = Chaining l.frames l.writes l.table l.chain l.write-index l.made
