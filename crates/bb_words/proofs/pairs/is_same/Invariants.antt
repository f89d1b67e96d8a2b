use Rattle.bb_aig.specs.Bits.{same_bits}
use Rattle.bb_words.proofs.Folding.{Folding}
use Rattle.bb_words.proofs.pairs.is_same.Given as goal

abbrev pub invariant-loop-index : goal.invariant-loop-index
invariant-loop-index l = Folding same_bits l.fn.gates l.gates l.a l.b l.told l.index l.same
