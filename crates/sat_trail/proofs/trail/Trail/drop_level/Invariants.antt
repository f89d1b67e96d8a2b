use Rattle.std.proofs.Common.{◌≡◌, length}
use Rattle.sat_trail.specs.Trail.{below}
use Rattle.sat_trail.proofs.trail.Trail.drop_level.Given as goal

abbrev pub invariant-loop-entry : goal.invariant-loop-entry
invariant-loop-entry l = below l.self ≡ below l.fn.self

abbrev pub decreases-loop-entry : goal.decreases-loop-entry
decreases-loop-entry l = length l.self
