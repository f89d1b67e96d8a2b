use Rattle.bm_unroll.proofs.FirstState.{Wording}
use Rattle.bm_unroll.proofs.starts.word_starts.Given as goal

abbrev pub invariant-loop-index : goal.invariant-loop-index
invariant-loop-index l = Wording l.mem l.number l.fn.draft l.draft l.index l.made.items
