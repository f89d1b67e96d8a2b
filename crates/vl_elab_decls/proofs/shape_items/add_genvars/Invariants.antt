use Rattle.std.proofs.Common.{◌≡◌}
use Rattle.std.specs.Prelude.{drop}
use Rattle.vl_elab_decls.specs.Objects.{with_genvars}
use Rattle.vl_elab_decls.proofs.shape_items.add_genvars.Given as goal

abbrev pub invariant-loop-text : goal.invariant-loop-text
invariant-loop-text l =
    with_genvars l.level (drop l.text-index l.all)
    ≡ with_genvars l.fn.level l.all
