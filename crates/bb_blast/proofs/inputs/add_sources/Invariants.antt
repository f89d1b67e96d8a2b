use Rattle.bb_blast.proofs.Sources.{AddingSources}
use Rattle.bb_blast.proofs.inputs.add_sources.Given as goal

abbrev pub invariant-loop-source : goal.invariant-loop-source
invariant-loop-source l = AddingSources l.aig l.widths l.source l.places l.words
