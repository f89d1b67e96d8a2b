use Rattle.std.proofs.Common.{◌≡◌, ◌≤◌, ◌++◌, ℕ, length}
use Rattle.lrat_check.specs.Sets.{AreLits}
use Rattle.sat_cubes.specs.Cubes.{cube_of}
use Rattle.sat_cubes.proofs.cube.cube_of.Given as goal

abbrev pub invariant-loop-left : goal.invariant-loop-left
invariant-loop-left l = (l.left ≤ l.fn.many)
    × (l.lits.items ++ cube_of l.split l.left l.rest ≡ cube_of l.split l.fn.many l.fn.index) × AreLits l.lits.items

abbrev pub decreases-loop-left : goal.decreases-loop-left
decreases-loop-left l = l.left
