use Rattle.std.proofs.Common.{◌≡◌}
use Rattle.sat_trail.specs.Trail.{lits, values_of}
use Rattle.sat_search.proofs.search.values.Given as goal

abbrev pub invariant-loop-index : goal.invariant-loop-index
invariant-loop-index l = l.values ≡ values_of l.index (lits l.trail)
