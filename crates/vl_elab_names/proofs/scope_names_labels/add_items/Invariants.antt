use Rattle.std.proofs.Common.{◌≡◌, ◌++◌}
use Rattle.std.specs.Prelude.{drop}
use Rattle.vl_tree.specs.Item.{items}
use Rattle.vl_mean.specs.Declarations.{all_names, names_of}
use Rattle.vl_elab_names.proofs.scope_names_labels.add_items.Given as goal

abbrev pub invariant-loop-item : goal.invariant-loop-item
invariant-loop-item l =
    l.names ++ (all_names (items (drop l.item-index l.all)))
    ≡ l.fn.names ++ (all_names (items l.all))
