use Rattle.std.proofs.Common.{◌≡◌}
use Rattle.std.specs.Prelude.{drop}
use Rattle.vl_tree.specs.Expr.{exprs, more}
use Rattle.vl_tree.specs.ExprView.{selects, with_select}
use Rattle.vl_mean.specs.Constants.{settled_exprs}
use Rattle.vl_mean.specs.Scopes.{constant_in, full}
use Rattle.vl_mean_flat.specs.FullNames as spec
use Rattle.vl_elab_draft.proofs.Laid.{laid}
use Rattle.vl_elab_draft.proofs.exprs.+flat.Given as goal

abbrev pub invariant-flat_parts-loop-part : goal.invariant-flat_parts-loop-part
invariant-flat_parts-loop-part l =
    laid more l.parts (spec.renamed_exprs (full l.scopes)
    (settled_exprs (constant_in l.scopes) (exprs (drop l.part-index l.all))))
    ≡ spec.renamed_exprs (full l.scopes) (settled_exprs (constant_in l.scopes) (exprs l.all))

abbrev pub invariant-flat_selected-loop-select : goal.invariant-flat_selected-loop-select
invariant-flat_selected-loop-select l =
    laid with_select l.parts (spec.flat_selects l.scopes (selects (drop l.select-index l.all)))
    ≡ spec.flat_selects l.scopes (selects l.all)
