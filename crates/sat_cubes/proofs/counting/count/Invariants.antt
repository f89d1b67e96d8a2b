use Rattle.std.proofs.Common.{◌≡◌, ℕ, ◌+◌, ◌<◌, take, length, get_or}
use Rattle.sat_cubes.specs.Splits.{occurrences_in}
use Rattle.sat_cubes.proofs.counting.count.Given as goal

abbrev pub invariant-loop-lit : goal.invariant-loop-lit
invariant-loop-lit l = (length l.counts.items ≡ length l.fn.counts.items)
    × ((k : ℕ) → k < length l.fn.counts.items → get_or l.counts.items k 0
    ≡ get_or l.fn.counts.items k 0 + occurrences_in (k + 1) (take l.lit-index l.clause))
