use Rattle.std.proofs.Common.{◌≡◌}
use Rattle.std.specs.Prelude.{drop}
use Rattle.std.specs.Prelude.{map}
use Rattle.vl_elab_params.specs.Passed.{with_all_passed}
use Rattle.vl_elab_params.proofs.names.pass_parameters.Given as goal

abbrev pub invariant-loop-parameter : goal.invariant-loop-parameter
invariant-loop-parameter l =
    with_all_passed l.pending l.names l.passed (map (λ x. x.name) (drop l.parameter-index l.all))
    ≡ with_all_passed l.pending l.names l.fn.passed (map (λ x. x.name) l.all)
