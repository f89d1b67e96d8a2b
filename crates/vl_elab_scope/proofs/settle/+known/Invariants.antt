use Rattle.std.proofs.Common.{◌≡◌}
use Rattle.std.specs.Prelude.{drop}
use Rattle.vl_tree.specs.Expr.{exprs}
use Rattle.vl_tree.specs.ExprView.{selects}
use Rattle.vl_mean.specs.Constants as spec
use Rattle.vl_mean.proofs.Making.{before, selects_before}
use Rattle.vl_elab_spec.specs.Meanings.{constants}
use Rattle.vl_elab_scope.proofs.settle.+known.Given as goal

abbrev pub invariant-known_parts-loop-part : goal.invariant-known_parts-loop-part
invariant-known_parts-loop-part l =
    before l.parts (spec.settled_exprs (constants l.names) (exprs (drop l.part-index l.all)))
    ≡ spec.settled_exprs (constants l.names) (exprs l.all)

abbrev pub invariant-known_selected-loop-select : goal.invariant-known_selected-loop-select
invariant-known_selected-loop-select l =
    selects_before l.parts (spec.settled_selects (constants l.names) (selects (drop l.select-index l.all)))
    ≡ spec.settled_selects (constants l.names) (selects l.all)
