use Rattle.std.proofs.Common.{◌≡◌, ◌+◌, ◌-◌, length}
use Rattle.sat_cubes.specs.Lifting.{listed}
use Rattle.sat_cubes.proofs.id_map.widen.Given as goal

abbrev pub invariant-loop-ids : goal.invariant-loop-ids
invariant-loop-ids l = listed l.ids.items ≡ listed l.fn.ids.items

abbrev pub decreases-loop-ids : goal.decreases-loop-ids
decreases-loop-ids l = l.place + 1 - length l.ids.items
