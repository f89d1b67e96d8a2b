use Rattle.std.proofs.Common.{◌≡◌}
use Rattle.std.specs.Prelude.{drop}
use Rattle.vl_elab_decls.specs.Hidden.{with_hidden}
use Rattle.std.specs.Prelude.{map}
use Rattle.vl_elab_decls.proofs.hidden.add_names.Given as goal

abbrev pub invariant-loop-name : goal.invariant-loop-name
invariant-loop-name l =
    with_hidden l.values l.level (map (λ x. x.name) (drop l.name-index l.all))
    ≡ with_hidden l.values l.fn.level (map (λ x. x.name) l.all)
