use Rattle.sat_trail.specs.Trail.{lits}
use Rattle.sat_search.specs.Order.{AssignedFrom}
use Rattle.sat_search.proofs.order.open_from.Given as goal

abbrev pub invariant-loop-index : goal.invariant-loop-index
invariant-loop-index l = AssignedFrom l.start l.index (lits l.trail)
