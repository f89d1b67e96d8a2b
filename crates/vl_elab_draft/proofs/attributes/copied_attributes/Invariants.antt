use Rattle.std.proofs.Common.{◌≡◌, ◌∷◌}
use Rattle.std.specs.Prelude.{drop}
use Rattle.vl_elab_draft.proofs.Laid.{laid}
use Rattle.vl_elab_draft.proofs.attributes.copied_attributes.Given as goal

abbrev pub invariant-loop-instance : goal.invariant-loop-instance
invariant-loop-instance l = laid (λ x l. x ∷ l) l.copies (drop l.instance-index l.all) ≡ l.all
