use Rattle.std.proofs.Common.{◌≡◌, drop}
use Rattle.bb_aig.specs.Bits.{number}
use Rattle.bm_decide.proofs.numbers.number_of.Given as goal

abbrev pub invariant-loop-index : goal.invariant-loop-index
invariant-loop-index l = l.made ≡ number (drop l.index l.bits)
