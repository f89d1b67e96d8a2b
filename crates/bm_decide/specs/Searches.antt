-- Meaning: What is known of the steps that a search refutes a formula by, beside that they do. Rule of this project.
use Rattle.std.specs.Prelude.{ℕ, ◌<◌, List, length}
use Rattle.cnf_form.specs.Cnf.{Cnf}
use Rattle.lrat_check.specs.declared.step.Step.{Step}
use Rattle.lrat_check.specs.Resolved.{derived}
use Rattle.sat_search.specs.Found.{nonempty}

-- they derive fewer clauses than the budget, the empty one aside
abbrev pub TakesFewer : ℕ → Cnf → List Step → Type 0
TakesFewer budget formula steps = length (nonempty (derived formula.clauses steps)) < budget
