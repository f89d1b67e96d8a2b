use Rattle.vl_lower.proofs.RegistersJoining.{IsJoined}
use Rattle.vl_lower.proofs.node.bits_node.Given as goal

abbrev pub invariant-loop-left : goal.invariant-loop-left
invariant-loop-left l = IsJoined l.fn.net l.net l.keep l.width l.left l.node

abbrev pub decreases-loop-left : goal.decreases-loop-left
decreases-loop-left l = l.left
