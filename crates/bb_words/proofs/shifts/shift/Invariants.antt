use Rattle.bb_words.proofs.Shifting.{Shifting}
use Rattle.bb_words.proofs.shifts.shift.Given as goal

abbrev pub invariant-loop-index : goal.invariant-loop-index
invariant-loop-index l = Shifting l.fn.gates l.gates l.direction l.fill l.word l.by l.index l.shifted.items
