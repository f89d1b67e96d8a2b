use Rattle.fv_bit_sets.specs.Cells.{AreRising}
use Rattle.fv_bit_sets.proofs.Turning.{ahead, IsJoinedTo}
use Rattle.fv_bit_sets.proofs.merge.joined.Given as goal

abbrev pub invariant-loop-next : goal.invariant-loop-next
invariant-loop-next l = record {
  rising : AreRising 0 l.next l.made.items;
  joined : IsJoinedTo l.how l.first l.second l.next l.made.items;
}

abbrev pub decreases-loop-next : goal.decreases-loop-next
decreases-loop-next l = ahead l.next
