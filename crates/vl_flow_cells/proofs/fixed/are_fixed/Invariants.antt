use Rattle.std.proofs.Common.{◌≡◌, drop, List}
use Rattle.vl_tree.specs.ExprView.{selects}
use Rattle.vl_size.specs.declared.decl.Decl.{Decl}
use Rattle.vl_mean.specs.FlatLaw.{flat_scopes}
use Rattle.vl_mean.specs.Targets.{are_fixed}
use Rattle.vl_flow_cells.proofs.fixed.are_fixed.Given as goal

abbrev pub invariant-loop-select : goal.invariant-loop-select
invariant-loop-select l =
    (ds : List Decl) → are_fixed (flat_scopes ds) (selects (drop l.select-index l.all))
    ≡ are_fixed (flat_scopes ds) (selects l.all)
