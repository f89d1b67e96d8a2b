use Rattle.std.proofs.Common.{◌≡◌, drop}
use Rattle.lrat_check.specs.Sets.{first_open}
use Rattle.sat_trail.specs.Trail.{lits, oldest}
use Rattle.sat_trail.proofs.trail.Trail.first_open.Given as goal

abbrev pub invariant-loop-lit : goal.invariant-loop-lit
invariant-loop-lit l = first_open (lits (oldest l.end l.self)) (drop l.lit-index l.clause)
    ≡ first_open (lits (oldest l.end l.self)) l.clause
