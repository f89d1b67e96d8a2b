use Rattle.std.specs.Prelude.{ℕ, ◌≤◌, ◌<◌, ◌+◌, map, slice_index}
use Rattle.wn_run.proofs.named.last_of_writes.Given as goal

abbrev pub invariant-loop-write : goal.invariant-loop-write
invariant-loop-write l = (l.start ≤ l.last)
    × ((k : ℕ) → k < l.write-index → slice_index (map (λ w. w.enable) l.writes) k < l.last + 1)
    × ((k : ℕ) → k < l.write-index → slice_index (map (λ w. w.addr) l.writes) k < l.last + 1)
    × ((k : ℕ) → k < l.write-index → slice_index (map (λ w. w.mask) l.writes) k < l.last + 1)
    × ((k : ℕ) → k < l.write-index → slice_index (map (λ w. w.value) l.writes) k < l.last + 1)
