-- Meaning: What is known of the steps of a refutation, by how many variables its clauses were split by. Rule of this
-- project.
use Rattle.std.specs.Prelude.{ℕ, zero, suc, List}
use Rattle.cnf_form.specs.Cnf.{Cnf}
use Rattle.lrat_check.specs.declared.step.Step.{Step}
use Rattle.bm_decide.specs.Searches.{TakesFewer}
use Rattle.sat_cubes.specs.Splits.{TellsCubes}

-- with none they derive fewer clauses than the budget; else, where the shares are large enough, they refute each cube
abbrev pub known_of : ℕ → ℕ → Cnf → List Step → Type 0
known_of zero budget formula steps = TakesFewer budget formula steps
known_of (suc n) budget formula steps = TellsCubes formula (suc n) budget steps
