use Rattle.std.proofs.Common.{drop, ◌↔◌}
use Rattle.sat_search.specs.Judging.{Rising}
use Rattle.sat_search.proofs.judging.are_rising.Given as goal

abbrev pub invariant-loop-lit : goal.invariant-loop-lit
invariant-loop-lit l = Rising l.last (drop l.lit-index l.lits) ↔ Rising 0 l.lits
