use Rattle.vl_elab.proofs.Counting.{AreLeft}
use Rattle.vl_elab.proofs.count.variable_bits.Given as goal

abbrev pub invariant-loop-index : goal.invariant-loop-index
invariant-loop-index l = AreLeft l.decls l.masks l.index l.rest l.bits
