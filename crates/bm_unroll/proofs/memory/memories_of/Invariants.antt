use Rattle.bm_unroll.proofs.Beginning.{Forming}
use Rattle.bm_unroll.proofs.memory.memories_of.Given as goal

abbrev pub invariant-loop-index : goal.invariant-loop-index
invariant-loop-index l = Forming l.words l.index l.made.items
