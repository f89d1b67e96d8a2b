use Rattle.std.proofs.Common.{◌≡◌, drop}
use Rattle.std.specs.List.{list_any}
use Rattle.lrat_check.specs.Sets.{has}
use Rattle.sat_trail.specs.Trail.{lits, oldest}
use Rattle.sat_trail.proofs.trail.Trail.any_true.Given as goal

abbrev pub invariant-loop-lit : goal.invariant-loop-lit
invariant-loop-lit l = list_any (has (lits (oldest l.end l.self))) (drop l.lit-index l.clause)
    ≡ list_any (has (lits (oldest l.end l.self))) l.clause
