use Rattle.vl_flow_order.specs.Visits.{AreVisits}
use Rattle.vl_flow_order.proofs.Visiting.{ahead}
use Rattle.vl_flow_order.proofs.visit.visits_of.Given as goal

abbrev pub invariant-loop-next : goal.invariant-loop-next
invariant-loop-next l = AreVisits l.groups l.bits l.visits.items l.next

abbrev pub decreases-loop-next : goal.decreases-loop-next
decreases-loop-next l = ahead l.next
