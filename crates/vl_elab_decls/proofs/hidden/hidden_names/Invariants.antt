use Rattle.std.proofs.Common.{◌≡◌, []}
use Rattle.std.specs.Prelude.{drop}
use Rattle.vl_tree.specs.Item.{items}
use Rattle.vl_elab_decls.specs.Hidden.{with_hidden_items}
use Rattle.vl_elab_decls.proofs.hidden.hidden_names.Given as goal

abbrev pub invariant-loop-item : goal.invariant-loop-item
invariant-loop-item l =
    with_hidden_items l.values l.level (items (drop l.item-index l.all)) ≡ with_hidden_items l.values [] (items l.all)
