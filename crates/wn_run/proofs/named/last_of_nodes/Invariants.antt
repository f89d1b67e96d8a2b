use Rattle.std.specs.Prelude.{ℕ, ◌≤◌, ◌<◌, ◌+◌, slice_index}
use Rattle.wn_run.proofs.named.last_of_nodes.Given as goal

abbrev pub invariant-loop-id : goal.invariant-loop-id
invariant-loop-id l = (l.start ≤ l.last) × ((k : ℕ) → k < l.id-index → slice_index l.ids k < l.last + 1)
