use Rattle.std.proofs.Common.{◌≡◌, ℕ, ◌+◌, ◌<◌, get_or}
use Rattle.vl_lower_assign.proofs.write.put_back.Given as goal

abbrev pub invariant-loop-k : goal.invariant-loop-k
invariant-loop-k l = record {
  inside : (j : ℕ) → j < l.k → get_or l.cells (l.first + j) 0 ≡ get_or l.words j 0;
  outside : (i : ℕ) → ((j : ℕ) → j < l.k → i ≡ l.first + j → ⊥) → get_or l.cells i 0 ≡ get_or l.initial.cells i 0;
}
