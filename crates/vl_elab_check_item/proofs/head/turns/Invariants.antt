use Rattle.std.proofs.Common.{◌≡◌, ◌≤◌}
use Rattle.vl_elab_spec.specs.Refused.{lower_of}
use Rattle.vl_elab_check_item.specs.TurnParts.{turns_fault}
use Rattle.vl_elab_check_item.proofs.head.turns.Given as goal

abbrev pub invariant-loop-left : goal.invariant-loop-left
invariant-loop-left l = record {
  names : l.names ≡ l.fn.names;
  numbers : l.numbers ≡ l.fn.numbers;
  few : l.left ≤ 4096;
  fault : lower_of l.fault (turns_fault l.left l.fn.names l.fn.numbers l.head l.pos l.value)
      ≡ turns_fault 4096 l.fn.names l.fn.numbers l.head l.pos l.fn.start;
}

abbrev pub decreases-loop-left : goal.decreases-loop-left
decreases-loop-left l = l.left
