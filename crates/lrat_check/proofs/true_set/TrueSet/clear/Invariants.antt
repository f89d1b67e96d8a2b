use Rattle.std.proofs.Common.{◌≡◌, true, ℤ, vec_len}
use Rattle.lrat_check.specs.Codes.{code_of}
use Rattle.lrat_check.specs.Marks.{is_marked}
use Rattle.lrat_check.specs.Sets.{has, AreLits}
use Rattle.lrat_check.proofs.true_set.TrueSet.clear.Given as goal

abbrev pub invariant-loop-lit : goal.invariant-loop-lit
invariant-loop-lit l = record {
  all_lits : AreLits l.self-inside.lits.items;
  marked : (m : ℤ) → is_marked l.self-inside.marks (code_of m) ≡ true → has l.self-inside.lits.items m ≡ true;
}

abbrev pub decreases-loop-lit : goal.decreases-loop-lit
decreases-loop-lit l = vec_len l.self-inside.lits
