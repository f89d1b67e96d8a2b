use Rattle.std.proofs.Common.{◌≡◌, ℕ, ◌<◌, length}
use Rattle.std.specs.Prelude.{slice_index}
use Rattle.base_tests.proofs.running.whole_spot.Given as goal

abbrev pub invariant-loop-bit : goal.invariant-loop-bit
invariant-loop-bit l = record {
  long : length l.bits ≡ l.bit;
  each : (j : ℕ) → j < l.bit → slice_index l.bits j ≡ j;
}
