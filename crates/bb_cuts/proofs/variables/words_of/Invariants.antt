use Rattle.std.proofs.Common.{take}
use Rattle.bb_cuts.specs.Variables.{AreSameWords}
use Rattle.bb_cuts.proofs.variables.words_of.Given as goal

abbrev pub invariant-loop-word : goal.invariant-loop-word
invariant-loop-word l = AreSameWords l.nodes l.made (take l.word-index l.words)
