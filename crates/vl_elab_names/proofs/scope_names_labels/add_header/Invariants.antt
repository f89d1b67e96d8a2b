use Rattle.std.proofs.Common.{◌≡◌, ◌++◌}
use Rattle.std.specs.Prelude.{drop}
use Rattle.vl_mean.specs.Declarations.{header_parameters}
use Rattle.vl_mean.specs.Walk.{parameter_names}
use Rattle.vl_elab_names.proofs.scope_names_labels.add_header.Given as goal

abbrev pub invariant-loop-parameter : goal.invariant-loop-parameter
invariant-loop-parameter l =
    l.names ++ (parameter_names (header_parameters (drop l.parameter-index l.all)))
    ≡ l.fn.names ++ (parameter_names (header_parameters l.all))
