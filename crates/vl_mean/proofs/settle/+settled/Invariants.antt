use Rattle.std.proofs.Common.{◌≡◌}
use Rattle.std.specs.Prelude.{drop}
use Rattle.vl_tree.specs.Expr.{exprs}
use Rattle.vl_tree.specs.ExprView.{selects}
use Rattle.vl_mean.specs.Constants as spec
use Rattle.vl_mean.specs.Params.{constant}
use Rattle.vl_mean.proofs.Making.{before, selects_before}
use Rattle.vl_mean.proofs.settle.+settled.Given as goal

abbrev pub invariant-settled_parts-loop-part : goal.invariant-settled_parts-loop-part
invariant-settled_parts-loop-part l =
    before l.parts (spec.settled_exprs (constant l.params) (exprs (drop l.part-index l.all)))
    ≡ spec.settled_exprs (constant l.params) (exprs l.all)

abbrev pub invariant-settled_selects-loop-select : goal.invariant-settled_selects-loop-select
invariant-settled_selects-loop-select l =
    selects_before l.parts (spec.settled_selects (constant l.params) (selects (drop l.select-index l.all)))
    ≡ spec.settled_selects (constant l.params) (selects l.all)
