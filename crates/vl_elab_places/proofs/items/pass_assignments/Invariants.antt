use Rattle.std.proofs.Common.{◌≡◌}
use Rattle.std.specs.Prelude.{drop}
use Rattle.vl_elab_places.specs.Passing.{assignments_passed}
use Rattle.vl_elab_places.proofs.items.pass_assignments.Given as goal

abbrev pub invariant-loop-assignment : goal.invariant-loop-assignment
invariant-loop-assignment l = assignments_passed (drop l.assignment-index l.all) l.at ≡ assignments_passed l.all l.fn.start
