-- Meaning: What a search answers. Rule of this project.
use Rattle.std.specs.Prelude.{ℕ, ◌≡◌, Bool, not, List, [], ◌∷◌, ◌++◌, ℤ, filter}
use Rattle.lrat_check.specs.declared.step.Step.{Step}
use Rattle.lrat_check.specs.declared.step.Step.TheVariants.{Add}
use Rattle.lrat_check.specs.Steps.{is_empty}
use Rattle.sat_search.specs.declared.found.Found.{Found}
use Rattle.sat_search.specs.declared.found.Found.TheVariants.{Model, Refuted, Spent}

-- a fact about the values of a model
abbrev pub IfModel : Found → (List Bool → Type 0) → Type 0
IfModel (Model values) P = P values
IfModel (Refuted steps) P = Unit {0}
IfModel (Spent steps) P = Unit {0}

-- a fact about the steps of a refutation
abbrev pub IfRefuted : Found → (List Step → Type 0) → Type 0
IfRefuted (Model values) P = Unit {0}
IfRefuted (Refuted steps) P = P steps
IfRefuted (Spent steps) P = Unit {0}

-- a fact about the steps where the budget is used up
abbrev pub IfSpent : Found → (List Step → Type 0) → Type 0
IfSpent (Model values) P = Unit {0}
IfSpent (Refuted steps) P = Unit {0}
IfSpent (Spent steps) P = P steps

-- a fact about the steps, if there are any
abbrev pub IfSteps : Found → (List Step → Type 0) → Type 0
IfSteps (Model values) P = Unit {0}
IfSteps (Refuted steps) P = P steps
IfSteps (Spent steps) P = P steps

-- the clauses that have a literal
abbrev pub nonempty : List (List ℤ) → List (List ℤ)
nonempty clauses = filter (λ c. not (is_empty c)) clauses

-- the last of the steps adds the empty clause, under this id
abbrev pub EndsEmpty : List Step → ℕ → Type 0
EndsEmpty steps id = (before : List Step) × (hints : List ℤ) × (steps ≡ before ++ Add id [] hints ∷ [])
