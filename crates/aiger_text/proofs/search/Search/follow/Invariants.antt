use Rattle.std.proofs.Common.{take}
use Rattle.aiger_text.specs.Circles.{Follows}
use Rattle.aiger_text.proofs.search.Search.follow.Given as goal

abbrev pub invariant-loop-target : goal.invariant-loop-target
invariant-loop-target l =
    Follows (take l.target-index l.row) l.goal l.initial.self.found.items l.initial.self.waiting.items
    l.self.found.items l.self.waiting.items
