-- Between functions: How a search may end. Rule of this project.
use Rattle.std.specs.Prelude.{ℕ, ◌≡◌, true, List, ℤ, length}
use Rattle.cnf_form.specs.Cnf.{formula_true, value_of}
use Rattle.sat_search.specs.declared.found.Found.{Found}
use Rattle.sat_search.specs.declared.found.Found.TheVariants.{Model, Refuted, Spent}
use Rattle.sat_search.specs.Turns.{IsRefuted, IsSpent}

-- with values of so many variables that make the formula true, with steps that refute it, or, where the budget is used
-- up, with steps that derive as many clauses
abbrev pub Ends : ℕ → ℕ → List (List ℤ) → Found → Type 0
Ends budget vars formula (Model values) = (length values ≡ vars) × (formula_true (value_of values) formula ≡ true)
Ends budget vars formula (Refuted steps) = IsRefuted budget formula vars steps
Ends budget vars formula (Spent steps) = IsSpent budget formula vars steps
