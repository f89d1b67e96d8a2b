use Rattle.std.proofs.Common.{◌≡◌}
use Rattle.sat_search.specs.Turns.{Keeps, turns_left}
use Rattle.sat_search.proofs.solving.go_through.Given as goal

abbrev pub invariant-turns : goal.invariant-turns
invariant-turns l = Keeps l.budget l.formula.clauses l.search × (l.search.vars ≡ l.formula.vars)

abbrev pub decreases-turns : goal.decreases-turns
decreases-turns l = turns_left l.search
