use Rattle.std.proofs.Common.{◌≡◌, map, take}
use Rattle.sat_cubes.specs.Cubes.{old_literal}
use Rattle.sat_cubes.proofs.lifting.old_clause.Given as goal

abbrev pub invariant-loop-lit : goal.invariant-loop-lit
invariant-loop-lit l = l.clause.items ≡ map (old_literal l.numbers) (take l.lit-index l.lits)
