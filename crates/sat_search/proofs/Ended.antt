-- What a search's end says of its values and of its steps.
use Rattle.std.proofs.Common.{◌≡◌, ℕ, ◌^◌, ◌<◌, true, List, ℤ, length}
use Rattle.cnf_form.specs.Cnf.{formula_true, value_of}
use Rattle.lrat_check.specs.Steps.{Refutes, Valid, AreSteps}
use Rattle.lrat_check.specs.Resolved.{Resolved, derived}
use Rattle.lrat_check.specs.Texts.{AreShort}
use Rattle.sat_search.specs.Added.{AreAdded}
use Rattle.sat_search.specs.declared.found.Found.{Found}
use Rattle.sat_search.specs.declared.found.Found.TheVariants.{Model, Refuted, Spent}
use Rattle.sat_search.specs.Ended.{Ends}
use Rattle.sat_search.specs.Found.{EndsEmpty, IfModel, IfRefuted, IfSpent, IfSteps, nonempty}

module _ (budget vars : ℕ) (formula : List (List ℤ)) where
  pub long : (found : Found) → Ends budget vars formula found → IfModel found (λ values. length values ≡ vars)
  long (Model values) e = e.0
  long (Refuted steps) e = tt
  long (Spent steps) e = tt

  pub true_by : (found : Found) → Ends budget vars formula found
      → IfModel found (λ values. formula_true (value_of values) formula ≡ true)
  true_by (Model values) e = e.1
  true_by (Refuted steps) e = tt
  true_by (Spent steps) e = tt

  pub refuted : (found : Found) → Ends budget vars formula found
      → IfRefuted found (λ steps. (id : ℕ) × Refutes formula steps id × EndsEmpty steps id)
  refuted (Model values) e = tt
  refuted (Refuted steps) e = (e.id, e.refutes, e.last)
  refuted (Spent steps) e = tt

  pub fewer : (found : Found) → Ends budget vars formula found
      → IfRefuted found (λ steps. length (nonempty (derived formula steps)) < budget)
  fewer (Model values) e = tt
  fewer (Refuted steps) e = e.fewer
  fewer (Spent steps) e = tt

  pub valid : (found : Found) → Ends budget vars formula found → IfSpent found (λ steps. Valid formula steps)
  valid (Model values) e = tt
  valid (Refuted steps) e = tt
  valid (Spent steps) e = e.valid

  pub resolved : (found : Found) → Ends budget vars formula found → IfSpent found (λ steps. Resolved formula steps)
  resolved (Model values) e = tt
  resolved (Refuted steps) e = tt
  resolved (Spent steps) e = e.resolved

  pub spent : (found : Found) → Ends budget vars formula found
      → IfSpent found (λ steps. length (derived formula steps) ≡ budget)
  spent (Model values) e = tt
  spent (Refuted steps) e = tt
  spent (Spent steps) e = e.spent

  pub bound : (found : Found) → Ends budget vars formula found → IfSpent found (λ steps. budget < 3 ^ vars)
  bound (Model values) e = tt
  bound (Refuted steps) e = tt
  bound (Spent steps) e = e.bound

  pub added : (found : Found) → Ends budget vars formula found → IfSteps found (λ steps. AreAdded vars steps)
  added (Model values) e = tt
  added (Refuted steps) e = e.added
  added (Spent steps) e = e.added

  pub are_steps : (found : Found) → Ends budget vars formula found → IfSteps found AreSteps
  are_steps (Model values) e = tt
  are_steps (Refuted steps) e = e.are_steps
  are_steps (Spent steps) e = e.are_steps

  pub short : (found : Found) → Ends budget vars formula found
      → IfSteps found (λ steps. vars < 10 ^ 18 → AreShort steps)
  short (Model values) e = tt
  short (Refuted steps) e = e.short
  short (Spent steps) e = e.short
