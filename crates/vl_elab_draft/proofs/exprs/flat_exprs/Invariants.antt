use Rattle.std.proofs.Common.{◌≡◌, ◌∷◌}
use Rattle.std.specs.Prelude.{drop}
use Rattle.vl_mean_flat.specs.FullNames as spec
use Rattle.vl_elab_draft.proofs.Laid.{laid}
use Rattle.vl_elab_draft.proofs.exprs.flat_exprs.Given as goal

abbrev pub invariant-loop-part : goal.invariant-loop-part
invariant-loop-part l =
    laid (λ x l. x ∷ l) l.parts (spec.flat_exprs l.scopes ((drop l.part-index l.all)))
    ≡ spec.flat_exprs l.scopes (l.all)
