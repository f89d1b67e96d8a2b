use Rattle.std.specs.Prelude.{◌≡◌, map, take, slice_index}
use Rattle.bm_unroll.proofs.cycles.nodes_at.Given as goal

abbrev pub invariant-loop-id : goal.invariant-loop-id
invariant-loop-id l = l.made.items ≡ map (slice_index l.table) (take l.id-index l.ids)
