use Rattle.std.specs.Prelude.{◌≡◌, ◌++◌, [], drop, map, slice_index_or}
use Rattle.bb_blast.proofs.roots.watched.Given as goal

abbrev pub invariant-loop-id : goal.invariant-loop-id
invariant-loop-id l =
    l.made ++ map (λ i. slice_index_or l.table i []) (drop l.id-index l.watch)
    ≡ map (λ i. slice_index_or l.table i []) l.watch
