-- What names mean in the value of a parameter, over the names of its scope.
use Rattle.std.specs.Prelude.{◌≡◌, List, ◌∷◌, drop}
use Rattle.std.proofs.Common.{ap, ◌∙◌}
use Rattle.vl_elab_spec.specs.Meanings.{Names}
use Rattle.vl_elab_scope.specs.Seen.{innermost}
use Rattle.vl_elab_params.specs.declared.reached.Reached.{Reached}
use Rattle.vl_elab_params.specs.Reached.{over}

pub entered_over : (reached : Reached) (first second : Names) (old between new : List Names)
    → first ≡ reached.pending → second ≡ reached.passed → between ≡ first ∷ old → new ≡ second ∷ between
    → new ≡ over reached old
entered_over reached first second old between new p q h k =
    k ∙ (λ i. q i ∷ h i) ∙ ap (λ l. reached.passed ∷ l ∷ old) p

abbrev made : Names → Names → Reached
made pending passed = record { pending = pending; passed = passed }

pub left_again : (reached : Reached) (first second : Names) (old between new outer : List Names)
    → first ≡ innermost old → between ≡ drop 1 old → second ≡ innermost between → new ≡ drop 1 between
    → old ≡ over reached outer → (made second first ≡ reached) × (new ≡ outer)
left_again reached first second old between new outer p h q k e =
    let rest : between ≡ reached.pending ∷ outer = h ∙ ap (drop 1) e in
    let passed : first ≡ reached.passed = p ∙ ap innermost e in
    let pending : second ≡ reached.pending = q ∙ ap innermost rest in
    ((λ i. made (pending i) (passed i)), k ∙ ap (drop 1) rest)
