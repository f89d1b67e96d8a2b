use Rattle.std.proofs.Common.{◌≡◌, ◌≤◌, ◌+◌}
use Rattle.vl_mean.specs.ConstantFaults.{capped}
use Rattle.vl_elab_count.specs.Counts.{turn_nodes}
use Rattle.vl_elab_count.proofs.turns.turns.Given as goal

abbrev pub invariant-loop-left : goal.invariant-loop-left
invariant-loop-left l = record {
  numbers : l.numbers ≡ l.fn.numbers;
  few : l.left ≤ 4096;
  count : capped (l.total + turn_nodes l.left l.fn.numbers l.head l.value)
      ≡ capped (turn_nodes 4096 l.fn.numbers l.head l.fn.start);
}

abbrev pub decreases-loop-left : goal.decreases-loop-left
decreases-loop-left l = l.left
