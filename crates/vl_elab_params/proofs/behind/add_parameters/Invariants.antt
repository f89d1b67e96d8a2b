use Rattle.std.proofs.Common.{◌≡◌}
use Rattle.std.specs.Prelude.{drop}
use Rattle.std.specs.Prelude.{map}
use Rattle.vl_elab_params.specs.Entered.{with_later}
use Rattle.vl_elab_params.proofs.behind.add_parameters.Given as goal

abbrev pub invariant-loop-parameter : goal.invariant-loop-parameter
invariant-loop-parameter l =
    with_later l.level (map (λ x. x.name) (drop l.parameter-index l.all))
    ≡ with_later l.fn.level (map (λ x. x.name) l.all)
