use Rattle.bm_unroll.proofs.FirstState.{Holding}
use Rattle.bm_unroll.proofs.starts.reg_starts.Given as goal

abbrev pub invariant-loop-index : goal.invariant-loop-index
invariant-loop-index l = Holding l.net l.fn.draft l.draft l.index l.made.items
