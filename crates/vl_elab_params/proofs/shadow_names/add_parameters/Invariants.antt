use Rattle.std.proofs.Common.{◌≡◌}
use Rattle.std.specs.Prelude.{drop}
use Rattle.std.specs.Prelude.{map}
use Rattle.vl_elab_params.specs.Shadows.{with_shadows}
use Rattle.vl_elab_params.proofs.shadow_names.add_parameters.Given as goal

abbrev pub invariant-loop-parameter : goal.invariant-loop-parameter
invariant-loop-parameter l =
    with_shadows l.names l.around l.level (map (λ x. x.name) (drop l.parameter-index l.all))
    ≡ with_shadows l.names l.around l.fn.level (map (λ x. x.name) l.all)
