use Rattle.std.proofs.Common.{◌≡◌, ℕ, List, drop}
use Rattle.fv_base.specs.Store.{names_in, no_files, with_pairs}
use Rattle.fv_base.proofs.store.from_pairs.Given as goal

-- the pairs that are left, put into what the map holds, give what all pairs give
abbrev pub invariant-loop-name : goal.invariant-loop-name
invariant-loop-name l = (other : List ℕ)
    → with_pairs (names_in l.store) (drop l.name-index l.pairs) other ≡ with_pairs no_files l.pairs other
