-- The four clauses over two variables: the definitions, computed.
use Rattle.std.proofs.Common.{◌≡◌, List, [], ◌∷◌, ℤ, pos, negsuc, refl}
use Rattle.std.specs.Prelude.{Err}
use Rattle.lrat_check.specs.declared.step.Step.{Step}
use Rattle.lrat_check.specs.declared.step.Step.TheVariants.{Add, Delete}
use Rattle.lrat_check.specs.declared.step.StepFault.TheVariants as fault
use Rattle.lrat_check.specs.Steps.{judged, Refutes, Valid, numbered}
use Rattle.lrat_check.specs.Resolved.{derived, IsResolvent}

abbrev four : List (List ℤ)
four = (pos 1 ∷ pos 2 ∷ []) ∷ (pos 1 ∷ negsuc 1 ∷ []) ∷ (negsuc 0 ∷ pos 2 ∷ []) ∷ (negsuc 0 ∷ negsuc 1 ∷ []) ∷ []

abbrev one : Step
one = Add 5 (pos 1 ∷ []) (pos 1 ∷ pos 2 ∷ [])

abbrev two : Step
two = Add 6 [] (pos 5 ∷ pos 3 ∷ pos 4 ∷ [])

refuted : Refutes four (one ∷ two ∷ []) 6
refuted = refl

valid : Valid four (one ∷ [])
valid = refl

new : derived four (one ∷ one ∷ []) ≡ (pos 1 ∷ []) ∷ []
new = refl

resolved : IsResolvent (numbered four) (pos 1 ∷ []) (pos 1 ∷ pos 2 ∷ [])
resolved = (pos 1 ∷ [], refl, refl)

open_hint : judged four (Add 5 [] (pos 1 ∷ pos 2 ∷ []) ∷ []) ≡ Err (fault.NotUnit 5 (pos 1))
open_hint = refl

deleted_clause : judged four (Delete 5 (1 ∷ []) ∷ one ∷ []) ≡ Err (fault.NoClause 5 (pos 1))
deleted_clause = refl

deleted_twice : judged four (Delete 5 (1 ∷ 1 ∷ []) ∷ []) ≡ Err (fault.NoClause 5 (pos 1))
deleted_twice = refl
