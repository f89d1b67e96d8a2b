use Rattle.std.proofs.Common.{◌≡◌}
use Rattle.std.specs.Prelude.{drop}
use Rattle.vl_tree.specs.ExprView.{selects, with_select}
use Rattle.vl_mean_flat.specs.FullNames as spec
use Rattle.vl_elab_draft.proofs.Laid.{laid}
use Rattle.vl_elab_draft.proofs.exprs.flat_selects.Given as goal

abbrev pub invariant-loop-select : goal.invariant-loop-select
invariant-loop-select l =
    laid with_select l.parts (spec.flat_selects l.scopes (selects (drop l.select-index l.all)))
    ≡ spec.flat_selects l.scopes (selects l.all)
