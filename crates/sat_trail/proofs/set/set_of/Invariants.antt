use Rattle.std.proofs.Common.{◌≡◌, take}
use Rattle.sat_trail.specs.Sorted.{sorted}
use Rattle.sat_trail.proofs.set.set_of.Given as goal

abbrev pub invariant-loop-lit : goal.invariant-loop-lit
invariant-loop-lit l = l.set.keys ≡ sorted (take l.lit-index l.lits)
