use Rattle.std.proofs.Common.{◌≡◌, ◌++◌, drop}
use Rattle.sat_cubes.specs.Lifting.{listed, lifted_hints}
use Rattle.sat_cubes.proofs.lifting.lifted_hints.Given as goal

abbrev pub invariant-loop-hint : goal.invariant-loop-hint
invariant-loop-hint l =
    l.found.items ++ lifted_hints (listed l.ids) (drop l.hint-index l.hints) ≡ lifted_hints (listed l.ids) l.hints
