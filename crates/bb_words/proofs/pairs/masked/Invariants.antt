use Rattle.std.specs.Prelude.{◌&&◌}
use Rattle.bb_aig.specs.Graph.{lit_at}
use Rattle.bb_words.proofs.Pairing.{Pairing}
use Rattle.bb_words.proofs.pairs.masked.Given as goal

abbrev pub invariant-loop-lit : goal.invariant-loop-lit
invariant-loop-lit l =
    Pairing (λ x v w. lit_at l.fn.gates x l.bit && w) l.fn.gates l.gates l.word l.word l.lit-index l.out.items
