use Rattle.std.proofs.Common.{◌≡◌, take}
use Rattle.vl_flow_order.specs.Numbers.{numbered, places}
use Rattle.vl_flow_order.proofs.loops.places_of.Given as goal

abbrev pub invariant-loop-at : goal.invariant-loop-at
invariant-loop-at l = l.found ≡ places (numbered l.drivers (take l.at l.numbers))
