use Rattle.std.proofs.Common.{◌≡◌}
use Rattle.std.specs.Prelude.{drop}
use Rattle.vl_elab_params.specs.Shadows.{with_shadows}
use Rattle.vl_elab_params.proofs.shadow_names.add_genvars.Given as goal

abbrev pub invariant-loop-text : goal.invariant-loop-text
invariant-loop-text l =
    with_shadows l.names l.around l.level (drop l.text-index l.all)
    ≡ with_shadows l.names l.around l.fn.level l.all
