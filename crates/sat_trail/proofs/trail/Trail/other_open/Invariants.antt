use Rattle.std.proofs.Common.{◌≡◌, drop}
use Rattle.lrat_check.specs.Sets.{other_open}
use Rattle.sat_trail.specs.Trail.{lits, oldest}
use Rattle.sat_trail.proofs.trail.Trail.other_open.Given as goal

abbrev pub invariant-loop-lit : goal.invariant-loop-lit
invariant-loop-lit l = other_open (lits (oldest l.end l.self)) l.first (drop l.lit-index l.clause)
    ≡ other_open (lits (oldest l.end l.self)) l.first l.clause
