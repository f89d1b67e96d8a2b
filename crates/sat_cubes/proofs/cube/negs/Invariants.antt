use Rattle.std.proofs.Common.{◌≡◌, take}
use Rattle.lrat_check.specs.Sets.{negs}
use Rattle.sat_cubes.proofs.cube.negs.Given as goal

abbrev pub invariant-loop-lit : goal.invariant-loop-lit
invariant-loop-lit l = l.complements.items ≡ negs (take l.lit-index l.lits)
