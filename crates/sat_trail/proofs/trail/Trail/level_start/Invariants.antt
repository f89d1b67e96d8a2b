use Rattle.std.proofs.Common.{◌≡◌, ◌≤◌, length}
use Rattle.sat_trail.specs.Trail.{below, oldest}
use Rattle.sat_trail.proofs.trail.Trail.level_start.Given as goal

abbrev pub invariant-loop-place : goal.invariant-loop-place
invariant-loop-place l = (l.place ≤ length l.self) × (below (oldest l.place l.self) ≡ below l.self)

abbrev pub decreases-loop-place : goal.decreases-loop-place
decreases-loop-place l = l.place
