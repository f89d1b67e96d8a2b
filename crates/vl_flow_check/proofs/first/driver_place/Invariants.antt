use Rattle.std.proofs.Common.{◌≡◌, ◌≤◌, List, length, drop, Some, slice_get}
use Rattle.vl_size.specs.declared.decl.Decl.{Decl}
use Rattle.vl_flow_spec.specs.Refusals.{place_of}
use Rattle.vl_flow_check.specs.Layouts.{IsLayoutOf}
use Rattle.vl_flow_check.proofs.first.driver_place.Given as goal

abbrev pub invariant-back : goal.invariant-back
invariant-back l = record {
  within : l.rest ≤ length l.drivers;
  found : (ds : List Decl) (d : Decl) → IsLayoutOf ds l.drivers l.layout → slice_get ds l.place ≡ Some d
      → l.found ≡ place_of (drop l.rest l.drivers) d;
}

abbrev pub decreases-back : goal.decreases-back
decreases-back l = l.rest
