use Rattle.std.proofs.Common.{◌≡◌}
use Rattle.sat_cubes.specs.Cubes.{open_vars}
use Rattle.sat_cubes.specs.Parts.{AreNumbered}
use Rattle.sat_cubes.proofs.numbering.number.Given as goal

abbrev pub invariant-loop-index : goal.invariant-loop-index
invariant-loop-index l = (l.numbers ≡ open_vars l.cube l.index) × AreNumbered l.cube l.index l.places
