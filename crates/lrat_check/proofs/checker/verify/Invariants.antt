use Rattle.std.proofs.Common.{◌≡◌, ◌≤◌, ◌+◌, drop}
use Rattle.lrat_check.specs.Steps.{verdict, judged}
use Rattle.lrat_check.specs.Store.{held_of, next, AreHeld}
use Rattle.lrat_check.proofs.checker.verify.Given as goal

abbrev pub invariant-loop-step : goal.invariant-loop-step
invariant-loop-step l = (verdict (held_of l.checker.held) l.checker.top (drop l.step-index l.steps)
    ≡ judged l.formula.clauses l.steps) × AreHeld (held_of l.checker.held)
    × (next l.checker.held ≤ l.checker.top + 1)
