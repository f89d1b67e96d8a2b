use Rattle.std.proofs.Common.{◌≡◌}
use Rattle.std.specs.Prelude.{drop}
use Rattle.vl_tree.specs.Item.{items}
use Rattle.vl_elab_spec.specs.Meanings.{parameters_of}
use Rattle.vl_elab_params.specs.Entered.{with_later}
use Rattle.vl_elab_params.proofs.pending.add_items.Given as goal

abbrev pub invariant-loop-item : goal.invariant-loop-item
invariant-loop-item l =
    with_later l.level (parameters_of (items (drop l.item-index l.all)))
    ≡ with_later l.fn.level (parameters_of (items l.all))
