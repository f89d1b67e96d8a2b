use Rattle.bb_blast.proofs.Sources.{AddingBits}
use Rattle.bb_blast.proofs.inputs.add_source.Given as goal

abbrev pub invariant-loop-bit : goal.invariant-loop-bit
invariant-loop-bit l = AddingBits l.fn.aig l.aig l.fn.places l.places l.source l.bit l.word
