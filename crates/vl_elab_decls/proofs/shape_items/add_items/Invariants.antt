use Rattle.std.proofs.Common.{◌≡◌}
use Rattle.std.specs.Prelude.{drop}
use Rattle.vl_elab_decls.specs.Objects.{with_items}
use Rattle.vl_tree.specs.Item.{items}
use Rattle.vl_elab_decls.proofs.shape_items.add_items.Given as goal

abbrev pub invariant-loop-item : goal.invariant-loop-item
invariant-loop-item l =
    with_items l.names l.level (items (drop l.item-index l.all))
    ≡ with_items l.names l.fn.level (items l.all)
