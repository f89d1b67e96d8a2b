use Rattle.std.specs.Prelude.{◌≡◌, map, take}
use Rattle.bm_unroll.specs.Shrunk.{source_at}
use Rattle.bm_unroll.proofs.shrink.sources_at.Given as goal

abbrev pub invariant-loop-place : goal.invariant-loop-place
invariant-loop-place l = l.made.items ≡ map (source_at l.sources) (take l.place-index l.kept)
