use Rattle.bm_unroll.proofs.Rows.{Laying}
use Rattle.bm_unroll.proofs.inputs.input_rows.Given as goal

abbrev pub invariant-loop-number : goal.invariant-loop-number
invariant-loop-number l = Laying l.net l.fn.draft l.draft l.cycle l.number l.made.items
