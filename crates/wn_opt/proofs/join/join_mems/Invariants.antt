use Rattle.wn_opt.specs.Parts.{HasWrites}
use Rattle.wn_opt.proofs.join.join_mems.Given as goal

abbrev pub invariant-loop-index : goal.invariant-loop-index
invariant-loop-index l = HasWrites l.net l.marks l.places l.initial.part l.part l.index
