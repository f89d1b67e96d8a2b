use Rattle.wn_opt.specs.Parts.{AreFresh}
use Rattle.wn_opt.proofs.behind.fresh_marks.Given as goal

abbrev pub invariant-loop-index : goal.invariant-loop-index
invariant-loop-index l = AreFresh l.marks l.before l.fresh.items l.index
