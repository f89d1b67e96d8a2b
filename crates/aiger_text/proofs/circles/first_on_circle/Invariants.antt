use Rattle.aiger_text.proofs.CircleLaws.{NoneOnCircleBelow}
use Rattle.aiger_text.proofs.circles.first_on_circle.Given as goal

abbrev pub invariant-loop-node : goal.invariant-loop-node
invariant-loop-node l = NoneOnCircleBelow l.graph l.node
