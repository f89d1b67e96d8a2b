use Rattle.std.proofs.Common.{◌≡◌}
use Rattle.std.specs.Prelude.{drop}
use Rattle.vl_elab_decls.specs.Objects.{with_declared}
use Rattle.vl_elab_decls.proofs.shape_items.add_names.Given as goal

abbrev pub invariant-loop-name : goal.invariant-loop-name
invariant-loop-name l =
    with_declared l.names l.form l.level (drop l.name-index l.all)
    ≡ with_declared l.names l.form l.fn.level l.all
