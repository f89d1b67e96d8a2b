use Rattle.lrat_check.proofs.Opening.{Going}
use Rattle.lrat_check.proofs.reading.read.Given as goal

abbrev pub invariant-loop-code : goal.invariant-loop-code
invariant-loop-code l = Going l.set l.codes l.code-index l.reading
