use Rattle.std.proofs.Common.{◌≡◌, ◌++◌}
use Rattle.std.specs.Prelude.{drop}
use Rattle.std.specs.Prelude.{map}
use Rattle.vl_elab_names.proofs.scope_names_labels.add_declared.Given as goal

abbrev pub invariant-loop-name : goal.invariant-loop-name
invariant-loop-name l =
    l.names ++ (map (λ x. x.name) (drop l.name-index l.all))
    ≡ l.fn.names ++ (map (λ x. x.name) l.all)
