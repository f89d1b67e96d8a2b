use Rattle.std.proofs.Common.{◌≡◌, ◌&&◌, ◌||◌, ℤ, take}
use Rattle.lrat_check.specs.Sets.{has}
use Rattle.sat_propagate.specs.Watches.{is_other}
use Rattle.sat_learn.proofs.analysis.join.Given as goal

-- so many literals of the clause came
abbrev pub invariant-loop-lit : goal.invariant-loop-lit
invariant-loop-lit l = (x : ℤ)
    → has l.set x ≡ (has l.fn.set x || (is_other l.skipped x && has (take l.lit-index l.clause) x))
