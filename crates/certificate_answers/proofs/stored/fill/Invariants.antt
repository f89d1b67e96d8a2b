use Rattle.std.proofs.Common.{◌≤◌}
use Rattle.lrat_check.specs.Store.{next}
use Rattle.certificate_answers.proofs.stored.fill.Given as goal

abbrev pub invariant-loop-id : goal.invariant-loop-id
invariant-loop-id l = next l.store ≤ l.id
