use Rattle.bb_words.proofs.Adding.{Adding}
use Rattle.bb_words.proofs.pairs.add.Given as goal

abbrev pub invariant-loop-index : goal.invariant-loop-index
invariant-loop-index l = Adding l.fn.gates l.gates l.a l.b l.below l.index l.out.items l.carry
