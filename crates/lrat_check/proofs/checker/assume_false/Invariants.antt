use Rattle.std.proofs.Common.{◌≡◌, ◌++◌, drop}
use Rattle.lrat_check.specs.Sets.{negs}
use Rattle.lrat_check.proofs.checker.assume_false.Given as goal

abbrev pub invariant-loop-lit : goal.invariant-loop-lit
invariant-loop-lit l = l.set ++ negs (drop l.lit-index l.lits) ≡ l.initial.set ++ negs l.lits
