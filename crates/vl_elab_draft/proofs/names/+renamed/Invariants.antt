use Rattle.std.proofs.Common.{◌≡◌}
use Rattle.std.specs.Prelude.{drop}
use Rattle.vl_tree.specs.Expr.{exprs, more}
use Rattle.vl_tree.specs.ExprView.{selects, with_select}
use Rattle.vl_mean.specs.Scopes.{full}
use Rattle.vl_mean_flat.specs.FullNames as spec
use Rattle.vl_elab_draft.proofs.Laid.{laid}
use Rattle.vl_elab_draft.proofs.names.+renamed.Given as goal

abbrev pub invariant-renamed_parts-loop-part : goal.invariant-renamed_parts-loop-part
invariant-renamed_parts-loop-part l =
    laid more l.parts (spec.renamed_exprs (full l.scopes) (exprs (drop l.part-index l.all)))
    ≡ spec.renamed_exprs (full l.scopes) (exprs l.all)

abbrev pub invariant-renamed_selects-loop-select : goal.invariant-renamed_selects-loop-select
invariant-renamed_selects-loop-select l =
    laid with_select l.parts (spec.renamed_selects (full l.scopes) (selects (drop l.select-index l.all)))
    ≡ spec.renamed_selects (full l.scopes) (selects l.all)
