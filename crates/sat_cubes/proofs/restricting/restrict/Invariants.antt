use Rattle.std.proofs.Common.{◌≡◌, ◌+◌, ◌++◌, drop, length}
use Rattle.sat_cubes.specs.Cubes.{open_vars, restricted, ids_from}
use Rattle.sat_cubes.proofs.restricting.restrict.Given as goal

abbrev pub invariant-loop-index : goal.invariant-loop-index
invariant-loop-index l =
    (l.left.vars ≡ length (open_vars l.cube l.formula.vars))
    × (l.left.clauses ++ restricted l.cube (drop l.index l.formula.clauses)
    ≡ restricted l.cube l.formula.clauses)
    × (l.ids ++ ids_from l.cube (l.index + 1) (drop l.index l.formula.clauses)
    ≡ ids_from l.cube 1 l.formula.clauses)
