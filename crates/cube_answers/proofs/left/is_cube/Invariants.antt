use Rattle.std.proofs.Common.{length}
use Rattle.sat_cubes.specs.Cubes.{IsCube}
use Rattle.cube_answers.proofs.left.is_cube.Given as goal

-- if what is left is a cube, the whole is one
abbrev pub invariant-loop-rest : goal.invariant-loop-rest
invariant-loop-rest l = IsCube l.vars l.rest → IsCube l.vars l.cube

abbrev pub decreases-loop-rest : goal.decreases-loop-rest
decreases-loop-rest l = length l.rest
