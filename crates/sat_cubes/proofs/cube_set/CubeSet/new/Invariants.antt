use Rattle.std.proofs.Common.{take}
use Rattle.sat_cubes.specs.Parts.{AreFound}
use Rattle.sat_cubes.proofs.cube_set.CubeSet.new.Given as goal

abbrev pub invariant-loop-lit : goal.invariant-loop-lit
invariant-loop-lit l = AreFound (take l.lit-index l.cube) l.places
