use Rattle.std.proofs.Common.{◌≡◌, ◌++◌}
use Rattle.std.specs.Prelude.{drop}
use Rattle.std.specs.Prelude.{map}
use Rattle.vl_elab_names.proofs.scope_names_labels.add_parameters.Given as goal

abbrev pub invariant-loop-parameter : goal.invariant-loop-parameter
invariant-loop-parameter l =
    l.names ++ (map (λ x. x.name) (drop l.parameter-index l.all))
    ≡ l.fn.names ++ (map (λ x. x.name) l.all)
