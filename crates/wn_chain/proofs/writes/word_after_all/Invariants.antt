use Rattle.wn_chain.proofs.Behind.{Following}
use Rattle.wn_chain.proofs.writes.word_after_all.Given as goal

abbrev pub invariant-loop-write : goal.invariant-loop-write
invariant-loop-write l = Following l.fn.net l.net l.writes l.word l.addr l.write-index l.found
