use Rattle.std.proofs.Common.{◌≡◌, take}
use Rattle.vl_flow_order.specs.Numbers.{settled_of}
use Rattle.vl_flow_order.proofs.sequence.settled.Given as goal

abbrev pub invariant-loop-number : goal.invariant-loop-number
invariant-loop-number l = l.kept ≡ settled_of l.footprints (take l.number-index l.numbers)
