use Rattle.std.proofs.Common.{◌≡◌, ◌≤◌, drop, length, take}
use Rattle.vl_flow_spec.specs.Refusals.{in_order}
use Rattle.vl_flow_check.specs.Earliest.{listed}
use Rattle.vl_flow_check.specs.Shares.{places_at}
use Rattle.vl_flow_check.proofs.earliest.earliest_of.Given as goal

abbrev pub invariant-back : goal.invariant-back
invariant-back l = record {
  within : l.rest ≤ length l.shares;
  found : listed l.found ≡ take 2 (in_order (places_at (drop l.rest l.shares) l.cell l.bit));
}

abbrev pub decreases-back : goal.decreases-back
decreases-back l = l.rest
