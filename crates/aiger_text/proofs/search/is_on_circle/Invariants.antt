use Rattle.std.proofs.Common.{◌+◌, length}
use Rattle.aiger_text.specs.Circles.{unfound, Searches}
use Rattle.aiger_text.proofs.search.is_on_circle.Given as goal

abbrev pub invariant-loop-next : goal.invariant-loop-next
invariant-loop-next l = Searches l.graph l.node l.search.found.items l.search.waiting.items

abbrev pub decreases-loop-next : goal.decreases-loop-next
decreases-loop-next l = unfound l.search.found.items + length l.search.waiting.items
