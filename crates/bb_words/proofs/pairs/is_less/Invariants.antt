use Rattle.bb_aig.specs.Bits.{less_bits}
use Rattle.bb_words.proofs.Folding.{Folding}
use Rattle.bb_words.proofs.pairs.is_less.Given as goal

abbrev pub invariant-loop-index : goal.invariant-loop-index
invariant-loop-index l = Folding less_bits l.fn.gates l.gates l.a l.b l.below l.index l.less
