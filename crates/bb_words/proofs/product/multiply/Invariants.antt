use Rattle.bb_words.proofs.Multiplying.{Multiplying}
use Rattle.bb_words.proofs.product.multiply.Given as goal

abbrev pub invariant-loop-bit : goal.invariant-loop-bit
invariant-loop-bit l = Multiplying l.fn.gates l.gates l.a l.b l.bit-index l.sum.items l.row.items
