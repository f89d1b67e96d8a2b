-- Between functions: The clauses that steps add. Rule of this project.
use Rattle.std.specs.Prelude.{ℕ, ◌≡◌, true, List, [], ◌∷◌}
use Rattle.cnf_form.specs.Cnf.{AreLiterals}
use Rattle.lrat_check.specs.declared.step.Step.{Step}
use Rattle.lrat_check.specs.declared.step.Step.TheVariants.{Add, Delete}
use Rattle.lrat_check.specs.Resolved.{consistent}

-- each added clause names variables of the formula, and no literal of it is another one's complement
abbrev pub AreAdded : ℕ → List Step → Type 0
AreAdded vars [] = Unit {0}
AreAdded vars (Add id lits hints ∷ steps) = AreLiterals vars lits × (consistent lits ≡ true) × AreAdded vars steps
AreAdded vars (Delete id ids ∷ steps) = AreAdded vars steps
