use Rattle.std.proofs.Common.{◌≡◌}
use Rattle.std.specs.Prelude.{drop}
use Rattle.vl_tree.specs.Item.{items}
use Rattle.vl_elab_const.specs.Given.{value_given}
use Rattle.vl_elab_params.specs.Entered.{stacks, with_items}
use Rattle.vl_elab_params.proofs.parameters.add_items.Given as goal

abbrev pub invariant-loop-item : goal.invariant-loop-item
invariant-loop-item l =
    with_items (value_given l.given) (stacks l.names l.numbers) (items (drop l.item-index l.all))
    ≡ with_items (value_given l.given) (stacks l.fn.names l.fn.numbers) (items l.all)
