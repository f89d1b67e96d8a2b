use Rattle.std.proofs.Common.{◌++◌, List}
use Rattle.std.specs.Prelude.{drop}
use Rattle.vl_tree.specs.Item.{items}
use Rattle.vl_mean.specs.Declarations.{declared}
use Rattle.vl_mean.specs.Runs.{Each}
use Rattle.vl_mean.specs.Scopes.{Scope}
use Rattle.vl_elab_const.specs.Numbers.{HaveNumbers}
use Rattle.vl_elab_const.specs.Openable.{IsInRange}
use Rattle.vl_elab_decls.proofs.Going.{Goes}
use Rattle.vl_elab_decls.proofs.decls_items.add_items.Given as goal

abbrev pub invariant-loop-item : goal.invariant-loop-item
invariant-loop-item l =
    (ss : List Scope) → HaveNumbers l.numbers ss → Each IsInRange (declared ss (items l.all))
    → Goes IsInRange (l.fn.decls ++ declared ss (items l.all)) l.decls
    (declared ss (items (drop l.item-index l.all)))
