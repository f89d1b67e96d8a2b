use Rattle.std.proofs.Common.{◌≡◌}
use Rattle.std.specs.Prelude.{drop}
use Rattle.vl_tree.specs.Item.{items}
use Rattle.vl_elab_spec.specs.Meanings.{items_names}
use Rattle.vl_elab_params.specs.Entered.{with_later}
use Rattle.vl_elab_params.proofs.behind.add_items.Given as goal

abbrev pub invariant-loop-item : goal.invariant-loop-item
invariant-loop-item l =
    with_later l.level (items_names (items (drop l.item-index l.all)))
    ≡ with_later l.fn.level (items_names (items l.all))
