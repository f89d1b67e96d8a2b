use Rattle.std.proofs.Common.{◌<◌, ◌≤◌, ◌-◌, ℕ, length}
use Rattle.lrat_check.specs.Store.{number_at}
use Rattle.lrat_check.proofs.sorted.halve.Given as goal

abbrev pub invariant-loop-low : goal.invariant-loop-low
invariant-loop-low l = (l.high ≤ length l.ids)
    × ((k : ℕ) → k < l.low → number_at l.ids k < l.id)
    × ((k : ℕ) → l.high ≤ k → k < length l.ids → l.id < number_at l.ids k)

abbrev pub decreases-loop-low : goal.decreases-loop-low
decreases-loop-low l = l.high - l.low
