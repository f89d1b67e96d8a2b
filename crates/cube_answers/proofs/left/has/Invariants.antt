use Rattle.std.proofs.Common.{◌≡◌, drop}
use Rattle.lrat_check.specs.Sets.{has}
use Rattle.cube_answers.proofs.left.has.Given as goal

abbrev pub invariant-loop-lit : goal.invariant-loop-lit
invariant-loop-lit l = has (drop l.lit-index l.lits) l.wanted ≡ has l.lits l.wanted
