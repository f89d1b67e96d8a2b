use Rattle.std.proofs.Common.{◌≡◌, []}
use Rattle.std.specs.Prelude.{drop}
use Rattle.vl_tree.specs.Item.{items}
use Rattle.vl_elab_spec.specs.Meanings.{items_names}
use Rattle.vl_elab_params.specs.Shadows.{with_shadows}
use Rattle.vl_elab_params.proofs.shadow_names.shadows.Given as goal

abbrev pub invariant-loop-item : goal.invariant-loop-item
invariant-loop-item l =
    with_shadows l.names l.around l.level (items_names (items (drop l.item-index l.all)))
    ≡ with_shadows l.names l.around [] (items_names (items l.all))
