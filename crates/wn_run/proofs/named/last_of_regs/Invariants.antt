use Rattle.std.specs.Prelude.{ℕ, ◌≤◌, ◌<◌, ◌+◌, map, slice_index}
use Rattle.wn_run.proofs.named.last_of_regs.Given as goal

abbrev pub invariant-loop-reg : goal.invariant-loop-reg
invariant-loop-reg l = (l.start ≤ l.last) × ((k : ℕ) → k < l.reg-index → slice_index (map (λ r. r.next) l.regs) k < l.last + 1)
