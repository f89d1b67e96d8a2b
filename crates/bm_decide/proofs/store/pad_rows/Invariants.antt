use Rattle.std.proofs.Common.{◌≡◌, ℕ, ◌+◌, ◌-◌, length}
use Rattle.std.specs.Prelude.{[], slice_index_or}
use Rattle.bm_decide.proofs.store.pad_rows.Given as goal

abbrev pub invariant-loop-alloc : goal.invariant-loop-alloc
invariant-loop-alloc l = (i : ℕ) → slice_index_or l.rows i [] ≡ slice_index_or l.initial.rows i []

abbrev pub decreases-loop-alloc : goal.decreases-loop-alloc
decreases-loop-alloc l = l.index + 1 - length l.rows
