use Rattle.std.proofs.Common.{◌≡◌, ℕ, ◌+◌, ◌-◌, length}
use Rattle.std.specs.Prelude.{slice_index}
use Rattle.bm_decide.proofs.store.pad.Given as goal

abbrev pub invariant-loop-numbers : goal.invariant-loop-numbers
invariant-loop-numbers l = (i : ℕ) → slice_index l.numbers i ≡ slice_index l.initial.numbers i

abbrev pub decreases-loop-numbers : goal.decreases-loop-numbers
decreases-loop-numbers l = l.index + 1 - length l.numbers
