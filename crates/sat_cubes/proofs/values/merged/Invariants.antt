use Rattle.std.proofs.Common.{◌≡◌}
use Rattle.sat_cubes.specs.Cubes.{new_number}
use Rattle.sat_cubes.specs.Values.{merged}
use Rattle.sat_cubes.proofs.values.merged.Given as goal

abbrev pub invariant-loop-index : goal.invariant-loop-index
invariant-loop-index l = (l.all ≡ merged l.cube l.values l.index) × (l.next ≡ new_number l.cube l.index)
