use Rattle.std.specs.Prelude.{◌≡◌, ℕ, ◌≤◌, ◌<◌}
use Rattle.ck_induct.specs.Traces.{first_in}
use Rattle.ck_induct.proofs.first.first_other.Given as goal

abbrev pub invariant-loop-cycle : goal.invariant-loop-cycle
invariant-loop-cycle l = (i : ℕ) → 1 ≤ i → i < l.cycle → first_in l.cycles i ≡ 0
