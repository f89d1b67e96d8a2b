use Rattle.std.specs.Prelude.{ℕ, ◌<◌, ◌≤◌, ◌^◌}
use Rattle.bb_words.proofs.shifts.levels.Given as goal

abbrev pub invariant-loop-levels : goal.invariant-loop-levels
invariant-loop-levels l = record {
  few : l.levels ≤ l.most;
  below : (i : ℕ) → i < l.levels → 2 ^ i < l.width;
}
