use Rattle.std.proofs.Common.{length}
use Rattle.sat_learn.proofs.lit_set.LitSet.clear.Given as goal

abbrev pub invariant-emptying : goal.invariant-emptying
invariant-emptying l = Unit {0}

abbrev pub decreases-emptying : goal.decreases-emptying
decreases-emptying l = length l.self
