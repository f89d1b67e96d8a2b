use Rattle.std.proofs.Common.{◌≡◌}
use Rattle.vl_elab_places.specs.Passing.{turns_passed}
use Rattle.vl_elab_places.proofs.turns.pass_turns.Given as goal

abbrev pub invariant-loop-left : goal.invariant-loop-left
invariant-loop-left l = record {
  numbers : l.numbers ≡ l.fn.numbers;
  behind : turns_passed l.left l.fn.numbers l.head l.value l.at
      ≡ turns_passed 4096 l.fn.numbers l.head l.fn.first l.fn.start;
}

abbrev pub decreases-loop-left : goal.decreases-loop-left
decreases-loop-left l = l.left
