use Rattle.bm_unroll.proofs.Writing.{Writing}
use Rattle.bm_unroll.proofs.words.next_words.Given as goal

abbrev pub invariant-loop-write : goal.invariant-loop-write
invariant-loop-write l = Writing l.fn.frames l.frames l.writes l.table l.words l.write-index l.made.items
