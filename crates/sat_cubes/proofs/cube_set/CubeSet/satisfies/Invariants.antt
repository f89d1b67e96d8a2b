use Rattle.std.proofs.Common.{◌≡◌, drop}
use Rattle.sat_cubes.specs.Cubes.{is_satisfied}
use Rattle.sat_cubes.proofs.cube_set.CubeSet.satisfies.Given as goal

abbrev pub invariant-loop-lit : goal.invariant-loop-lit
invariant-loop-lit l = is_satisfied l.self (drop l.lit-index l.clause) ≡ is_satisfied l.self l.clause
