use Rattle.bm_unroll.proofs.Rows.{Rowing}
use Rattle.bm_unroll.proofs.inputs.input_row.Given as goal

abbrev pub invariant-loop-index : goal.invariant-loop-index
invariant-loop-index l = Rowing l.net l.fn.draft l.draft l.cycle l.index l.made.items
