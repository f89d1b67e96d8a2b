use Rattle.wn_opt.proofs.Walking.{AreMarked}
use Rattle.wn_opt.proofs.marks.Marks.mark_all.Given as goal

abbrev pub invariant-loop-id : goal.invariant-loop-id
invariant-loop-id l = AreMarked l.net l.roots l.initial.self l.self l.ids l.id-index
