use Rattle.aiger_text.proofs.CircleLaws.{NoneRisesBelow}
use Rattle.aiger_text.proofs.circles.none_rises.Given as goal

abbrev pub invariant-loop-node : goal.invariant-loop-node
invariant-loop-node l = NoneRisesBelow l.graph l.ranks l.node
