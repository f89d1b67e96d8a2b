use Rattle.bm_unroll.specs.Walk.{Passes}
use Rattle.bm_unroll.proofs.cycles.pass_cycles.Given as goal

abbrev pub invariant-loop-index : goal.invariant-loop-index
invariant-loop-index l = Passes l.fn.frames l.frames l.net l.rows l.fn.start l.index l.state l.roots.items
