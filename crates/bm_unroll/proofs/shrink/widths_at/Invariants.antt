use Rattle.std.specs.Prelude.{◌≡◌, map, slice_index, take}
use Rattle.bm_unroll.proofs.shrink.widths_at.Given as goal

abbrev pub invariant-loop-place : goal.invariant-loop-place
invariant-loop-place l = l.made.items ≡ map (slice_index l.widths) (take l.place-index l.kept)
