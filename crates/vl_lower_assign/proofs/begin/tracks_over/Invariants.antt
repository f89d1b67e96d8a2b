use Rattle.std.specs.Prelude.{◌≡◌, ℕ, ◌+◌, ◌<◌, ◌≤◌, length}
use Rattle.vl_lower_assign.specs.Tracks.{AreTracks, track_at}
use Rattle.vl_lower_assign.proofs.begin.tracks_over.Given as goal

abbrev pub invariant-loop-number : goal.invariant-loop-number
invariant-loop-number l = record {
  many : length l.tracks.items ≡ l.number;
  tracks : AreTracks l.net l.cells l.tracks.items;
  ends : (i : ℕ) → i < length l.tracks.items
      → (track_at l.tracks.items i).first + (track_at l.tracks.items i).count ≤ l.end;
}
