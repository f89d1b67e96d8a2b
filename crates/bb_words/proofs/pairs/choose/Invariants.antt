use Rattle.bb_aig.specs.Graph.{lit_at}
use Rattle.bb_aig.specs.Bits.{pick}
use Rattle.bb_words.proofs.Pairing.{Pairing}
use Rattle.bb_words.proofs.pairs.choose.Given as goal

abbrev pub invariant-loop-index : goal.invariant-loop-index
invariant-loop-index l = Pairing (λ x. pick
    (lit_at l.fn.gates x l.test)) l.fn.gates l.gates l.a l.b l.index l.out.items
