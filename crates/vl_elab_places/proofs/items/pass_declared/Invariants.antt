use Rattle.std.proofs.Common.{◌≡◌}
use Rattle.std.specs.Prelude.{drop}
use Rattle.vl_elab_places.specs.Passing.{declared_passed}
use Rattle.vl_elab_places.proofs.items.pass_declared.Given as goal

abbrev pub invariant-loop-name : goal.invariant-loop-name
invariant-loop-name l = declared_passed (drop l.name-index l.all) l.at ≡ declared_passed l.all l.fn.start
