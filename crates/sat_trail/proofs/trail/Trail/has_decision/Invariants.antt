use Rattle.std.proofs.Common.{◌≡◌, ◌≤◌, length}
use Rattle.sat_trail.specs.Trail.{decided, oldest}
use Rattle.sat_trail.proofs.trail.Trail.has_decision.Given as goal

abbrev pub invariant-loop-place : goal.invariant-loop-place
invariant-loop-place l = (l.place ≤ length l.self) × (decided (oldest l.place l.self) ≡ decided l.self)

abbrev pub decreases-loop-place : goal.decreases-loop-place
decreases-loop-place l = l.place
