use Rattle.wn_opt.specs.Parts.{HasAssumes}
use Rattle.wn_opt.proofs.join.join_assumes.Given as goal

abbrev pub invariant-loop-id : goal.invariant-loop-id
invariant-loop-id l = HasAssumes l.net l.places l.initial.part l.part l.id-index
