use Rattle.std.proofs.Common.{◌≡◌, drop}
use Rattle.lrat_check.specs.Steps.{deleted}
use Rattle.lrat_check.specs.Store.{held_of, next}
use Rattle.lrat_check.proofs.held.delete.Given as goal

abbrev pub invariant-loop-old : goal.invariant-loop-old
invariant-loop-old l = (deleted (held_of l.held) l.id (drop l.old-index l.ids)
    ≡ deleted (held_of l.initial.held) l.id l.ids) × (next l.held ≡ next l.initial.held)
