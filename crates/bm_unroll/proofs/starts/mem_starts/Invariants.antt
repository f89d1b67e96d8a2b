use Rattle.bm_unroll.proofs.FirstState.{Storing}
use Rattle.bm_unroll.proofs.starts.mem_starts.Given as goal

abbrev pub invariant-loop-index : goal.invariant-loop-index
invariant-loop-index l = Storing l.net l.fn.draft l.draft l.index l.made.items
