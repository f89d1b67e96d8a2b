use Rattle.std.proofs.Common.{◌-◌, ◌≤◌, length}
use Rattle.wn_opt.specs.Parts.{HasNoPlaces}
use Rattle.wn_opt.proofs.copy.no_places.Given as goal

abbrev pub invariant-nodes : goal.invariant-nodes
invariant-nodes l = record {
  few : length l.places.items ≤ l.count;
  none : HasNoPlaces l.places.items;
}

abbrev pub decreases-nodes : goal.decreases-nodes
decreases-nodes l = l.count - length l.places.items
