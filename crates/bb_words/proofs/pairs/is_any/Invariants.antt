use Rattle.bb_aig.specs.Bits.{any_bit}
use Rattle.bb_words.proofs.Folding.{Folding}
use Rattle.bb_words.proofs.pairs.is_any.Given as goal

abbrev pub invariant-loop-lit : goal.invariant-loop-lit
invariant-loop-lit l = Folding (λ r xs ys. any_bit r xs) l.fn.gates l.gates l.word l.word l.told l.lit-index l.any
