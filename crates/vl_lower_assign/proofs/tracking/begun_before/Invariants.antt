use Rattle.std.specs.Prelude.{ℕ, ◌-◌, ◌<◌, ◌≤◌, length}
use Rattle.vl_lower_assign.specs.Tracks.{track_at}
use Rattle.vl_lower_assign.proofs.tracking.begun_before.Given as goal

abbrev pub invariant-loop-low : goal.invariant-loop-low
invariant-loop-low l = record {
  order : l.low ≤ l.high;
  within : l.high ≤ length l.tracks;
  begun : (i : ℕ) → i < l.low → (track_at l.tracks i).first < l.end;
  later : (i : ℕ) → l.high ≤ i → i < length l.tracks → l.end ≤ (track_at l.tracks i).first;
}

abbrev pub decreases-loop-low : goal.decreases-loop-low
decreases-loop-low l = l.high - l.low
