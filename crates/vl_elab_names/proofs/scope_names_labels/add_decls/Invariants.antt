use Rattle.std.proofs.Common.{◌≡◌, ◌++◌}
use Rattle.std.specs.Prelude.{drop}
use Rattle.std.specs.Prelude.{map}
use Rattle.vl_elab_names.proofs.scope_names_labels.add_decls.Given as goal

abbrev pub invariant-loop-decl : goal.invariant-loop-decl
invariant-loop-decl l =
    l.names ++ (map (λ d. d.name) (drop l.decl-index l.all))
    ≡ l.fn.names ++ (map (λ d. d.name) l.all)
