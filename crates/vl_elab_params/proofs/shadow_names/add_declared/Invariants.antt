use Rattle.std.proofs.Common.{◌≡◌}
use Rattle.std.specs.Prelude.{drop}
use Rattle.std.specs.Prelude.{map}
use Rattle.vl_elab_params.specs.Shadows.{with_shadows}
use Rattle.vl_elab_params.proofs.shadow_names.add_declared.Given as goal

abbrev pub invariant-loop-name : goal.invariant-loop-name
invariant-loop-name l =
    with_shadows l.names l.around l.level (map (λ x. x.name) (drop l.name-index l.all))
    ≡ with_shadows l.names l.around l.fn.level (map (λ x. x.name) l.all)
