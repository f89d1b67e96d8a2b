use Rattle.std.proofs.Common.{◌≡◌}
use Rattle.std.specs.Prelude.{drop}
use Rattle.vl_elab_places.specs.Passing.{parameters_passed}
use Rattle.vl_elab_places.proofs.items.pass_parameters.Given as goal

abbrev pub invariant-loop-parameter : goal.invariant-loop-parameter
invariant-loop-parameter l = parameters_passed (drop l.parameter-index l.all) l.at ≡ parameters_passed l.all l.fn.start
