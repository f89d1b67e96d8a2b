use Rattle.bb_words.specs.WordsOperators.{of_operator}
use Rattle.bb_words.proofs.Pairing.{Pairing}
use Rattle.bb_words.proofs.pairs.operate.Given as goal

abbrev pub invariant-loop-index : goal.invariant-loop-index
invariant-loop-index l = Pairing (λ x. of_operator l.operator) l.fn.gates l.gates l.a l.b l.index l.out.items
