use Rattle.std.proofs.Common.{◌<◌, length}
use Rattle.vl_flow_order.specs.Numbers.{IsEarliest}
use Rattle.vl_flow_order.proofs.loops.earliest.Given as goal

abbrev pub invariant-loop-at : goal.invariant-loop-at
invariant-loop-at l = record {
  within : l.best < length l.numbers;
  earliest : IsEarliest l.drivers l.numbers l.at l.best;
}
