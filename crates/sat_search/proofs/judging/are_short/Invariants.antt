use Rattle.std.proofs.Common.{drop, ◌↔◌}
use Rattle.std.specs.List.{AllByRecursion}
use Rattle.lrat_check.specs.Texts.{IsShortLiteral}
use Rattle.sat_search.proofs.judging.are_short.Given as goal

abbrev pub invariant-loop-hint : goal.invariant-loop-hint
invariant-loop-hint l =
    AllByRecursion IsShortLiteral (drop l.hint-index l.hints) ↔ AllByRecursion IsShortLiteral l.hints
