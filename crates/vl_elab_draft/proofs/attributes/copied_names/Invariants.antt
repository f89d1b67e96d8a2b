use Rattle.std.proofs.Common.{◌≡◌, ◌∷◌}
use Rattle.std.specs.Prelude.{drop}
use Rattle.vl_elab_draft.proofs.Laid.{laid}
use Rattle.vl_elab_draft.proofs.attributes.copied_names.Given as goal

abbrev pub invariant-loop-attribute : goal.invariant-loop-attribute
invariant-loop-attribute l = laid (λ x l. x ∷ l) l.copies (drop l.attribute-index l.all) ≡ l.all
