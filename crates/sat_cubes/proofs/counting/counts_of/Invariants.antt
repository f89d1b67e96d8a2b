use Rattle.std.proofs.Common.{◌≡◌, ℕ, ◌+◌, ◌<◌, take, length, get_or}
use Rattle.sat_cubes.specs.Splits.{occurrences}
use Rattle.sat_cubes.proofs.counting.counts_of.Given as goal

abbrev pub invariant-loop-index : goal.invariant-loop-index
invariant-loop-index l = (length l.counts.items ≡ l.formula.vars)
    × ((k : ℕ) → k < l.formula.vars
    → get_or l.counts.items k 0 ≡ occurrences (k + 1) (take l.index l.formula.clauses))
