use Rattle.bm_unroll.proofs.Moving.{Moving}
use Rattle.bm_unroll.proofs.next.next_memories.Given as goal

abbrev pub invariant-loop-index : goal.invariant-loop-index
invariant-loop-index l = Moving l.fn.frames l.frames l.net l.table l.mems l.index l.made.items
