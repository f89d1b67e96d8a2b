use Rattle.std.proofs.Common.{◌≡◌, ℕ, ◌<◌, length, slice_index_or}
use Rattle.bb_cuts.proofs.network.first_nodes.Given as goal

abbrev pub invariant-loop-index : goal.invariant-loop-index
invariant-loop-index l = record {
  count : length l.nodes.items ≡ l.index;
  each : (k : ℕ) → k < l.index → slice_index_or l.nodes.items k 0 ≡ k;
}
