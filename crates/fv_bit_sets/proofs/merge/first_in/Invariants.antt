use Rattle.fv_bit_sets.proofs.Turning.{ahead, IsFrom, AreBareTo}
use Rattle.fv_bit_sets.proofs.merge.first_in.Given as goal

abbrev pub invariant-loop-next : goal.invariant-loop-next
invariant-loop-next l = record {
  from : IsFrom l.from l.next;
  bare : AreBareTo l.steps l.from l.next;
}

abbrev pub decreases-loop-next : goal.decreases-loop-next
decreases-loop-next l = ahead l.next
