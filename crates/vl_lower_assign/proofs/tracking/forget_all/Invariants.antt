use Rattle.std.specs.Prelude.{◌≡◌, ℕ, ◌<◌, None, length}
use Rattle.vl_lower_assign.specs.Tracks.{track_at}
use Rattle.vl_lower_assign.proofs.tracking.forget_all.Given as goal

abbrev pub invariant-loop-index : goal.invariant-loop-index
invariant-loop-index l = record {
  many : length l.tracks ≡ length l.initial.tracks;
  first : (i : ℕ) → i < length l.initial.tracks → (track_at l.tracks i).first ≡ (track_at l.initial.tracks i).first;
  count : (i : ℕ) → i < length l.initial.tracks → (track_at l.tracks i).count ≡ (track_at l.initial.tracks i).count;
  writes : (i : ℕ) → i < l.index → (track_at l.tracks i).writes ≡ None;
}
