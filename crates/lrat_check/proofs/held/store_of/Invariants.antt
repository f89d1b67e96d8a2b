use Rattle.std.proofs.Common.{◌≡◌, ◌≤◌, ◌+◌, take}
use Rattle.lrat_check.specs.Steps.{numbered}
use Rattle.lrat_check.specs.Store.{held_of, next}
use Rattle.lrat_check.proofs.held.store_of.Given as goal

abbrev pub invariant-loop-index : goal.invariant-loop-index
invariant-loop-index l = (l.id ≡ l.index) × (held_of l.held ≡ numbered (take l.index l.formula.clauses))
    × (next l.held ≤ l.id + 1)
