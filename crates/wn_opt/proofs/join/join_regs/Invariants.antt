use Rattle.wn_opt.specs.Parts.{HasNexts}
use Rattle.wn_opt.proofs.join.join_regs.Given as goal

abbrev pub invariant-loop-index : goal.invariant-loop-index
invariant-loop-index l = HasNexts l.net l.marks l.places l.initial.part l.part l.index
