use Rattle.std.proofs.Common.{◌≡◌, drop}
use Rattle.lrat_check.specs.Steps.{walk}
use Rattle.lrat_check.specs.Store.{held_of}
use Rattle.lrat_check.proofs.checker.propagate.Given as goal

abbrev pub invariant-loop-hint : goal.invariant-loop-hint
invariant-loop-hint l =
    walk (held_of l.held) l.id l.set (drop l.hint-index l.hints) ≡ walk (held_of l.held) l.id l.initial.set l.hints
