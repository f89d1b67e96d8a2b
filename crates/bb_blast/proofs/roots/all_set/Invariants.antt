use Rattle.bb_blast.proofs.Rooting.{Rooting}
use Rattle.bb_blast.proofs.roots.all_set.Given as goal

abbrev pub invariant-loop-root : goal.invariant-loop-root
invariant-loop-root l = Rooting l.fn.gates l.gates l.table l.roots l.root-index l.all
