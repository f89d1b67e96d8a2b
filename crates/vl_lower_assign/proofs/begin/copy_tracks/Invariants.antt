use Rattle.std.specs.Prelude.{◌≡◌, take}
use Rattle.vl_lower_assign.proofs.begin.copy_tracks.Given as goal

abbrev pub invariant-loop-track : goal.invariant-loop-track
invariant-loop-track l = l.copies.items ≡ take l.track-index l.tracks
