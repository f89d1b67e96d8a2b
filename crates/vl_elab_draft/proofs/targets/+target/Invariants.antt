use Rattle.std.proofs.Common.{◌≡◌}
use Rattle.std.specs.Prelude.{drop}
use Rattle.vl_tree.specs.Lval.{lvals, more_lvals}
use Rattle.vl_mean_flat.specs.FullNames as spec
use Rattle.vl_elab_draft.proofs.Laid.{laid}
use Rattle.vl_elab_draft.proofs.targets.+target.Given as goal

abbrev pub invariant-flat_lvals-loop-part : goal.invariant-flat_lvals-loop-part
invariant-flat_lvals-loop-part l =
    laid more_lvals l.parts (spec.flat_lvals l.scopes (lvals (drop l.part-index l.all)))
    ≡ spec.flat_lvals l.scopes (lvals l.all)
