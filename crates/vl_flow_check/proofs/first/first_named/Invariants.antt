use Rattle.vl_flow_check.proofs.Firsts.{ArePassed, IsMarked}
use Rattle.vl_flow_order.proofs.Visiting.{ahead}
use Rattle.vl_flow_check.proofs.first.first_named.Given as goal

abbrev pub invariant-loop-next : goal.invariant-loop-next
invariant-loop-next l = record {
  passed : ArePassed l.decls l.drivers l.marked l.next;
  marked : IsMarked l.decls l.drivers l.marked l.next;
}

abbrev pub decreases-loop-next : goal.decreases-loop-next
decreases-loop-next l = ahead l.next
