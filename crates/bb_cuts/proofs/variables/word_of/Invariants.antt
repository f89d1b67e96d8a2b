use Rattle.std.proofs.Common.{take}
use Rattle.bb_cuts.specs.Variables.{AreSame}
use Rattle.bb_cuts.proofs.variables.word_of.Given as goal

abbrev pub invariant-loop-lit : goal.invariant-loop-lit
invariant-loop-lit l = AreSame l.nodes l.made (take l.lit-index l.word)
