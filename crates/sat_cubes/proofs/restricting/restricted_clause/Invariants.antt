use Rattle.std.proofs.Common.{◌≡◌, map, take}
use Rattle.sat_cubes.specs.Cubes.{renumbered, reduced}
use Rattle.sat_cubes.proofs.restricting.restricted_clause.Given as goal

abbrev pub invariant-loop-lit : goal.invariant-loop-lit
invariant-loop-lit l = l.lits.items ≡ map (renumbered l.cube) (reduced l.cube (take l.lit-index l.clause))
