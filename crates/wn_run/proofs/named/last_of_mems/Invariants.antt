use Rattle.std.specs.Prelude.{ℕ, ◌≤◌, ◌<◌, ◌+◌, [], map, slice_index_or}
use Rattle.wn_run.specs.Named.{AreWritesBelow}
use Rattle.wn_run.proofs.named.last_of_mems.Given as goal

abbrev pub invariant-loop-mem : goal.invariant-loop-mem
invariant-loop-mem l = (l.start ≤ l.last)
    × ((k : ℕ) → k < l.mem-index → AreWritesBelow (slice_index_or (map (λ m. m.writes) l.mems) k []) (l.last + 1))
