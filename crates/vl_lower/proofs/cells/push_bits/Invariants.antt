use Rattle.vl_lower.proofs.Spots.{AreLeft}
use Rattle.vl_lower.proofs.cells.push_bits.Given as goal

abbrev pub invariant-loop-left : goal.invariant-loop-left
invariant-loop-left l = AreLeft l.fn.spots l.spots l.keep l.width l.left l.name

abbrev pub decreases-loop-left : goal.decreases-loop-left
decreases-loop-left l = l.left
