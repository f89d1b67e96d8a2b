-- Between functions: What clauses of runs come to by a search: how a verdict is put together, and what is known of it.
use Rattle.std.specs.Prelude.{◌≡◌, ℕ, ◌<◌, ◌^◌, true, List, length}
use Rattle.cnf_form.specs.Cnf.{Cnf, AreClauses, formula_true, value_of}
use Rattle.lrat_check.specs.declared.step.Step.{Step}
use Rattle.lrat_check.specs.Resolved.{Resolved, derived}
use Rattle.lrat_check.specs.Steps.{AreSteps, Refutes, Valid}
use Rattle.lrat_check.specs.Texts.{AreShort}
use Rattle.sat_search.specs.declared.found.Found.{Found}
use Rattle.sat_search.specs.declared.found.Found.TheVariants as found
use Rattle.sat_search.specs.Found.{EndsEmpty, IfModel, IfRefuted, IfSpent, IfSteps}
use Rattle.bm_decide.specs.declared.runs.RunClauses.{RunClauses}
use Rattle.bm_decide.specs.declared.verdict.ChoiceBits.{ChoiceBits}
use Rattle.bm_decide.specs.declared.verdict.Certificate.{Certificate}
use Rattle.bm_decide.specs.declared.verdict.Verdict.{Verdict}
use Rattle.bm_decide.specs.declared.verdict.Verdict.TheVariants as v

abbrev pub bits_of : RunClauses → ChoiceBits
bits_of c = record {
  sources = c.frames.sources;
  widths = c.frames.widths;
  places = c.encoded.places;
}

abbrev pub certificate_of : RunClauses → List Step → Certificate
certificate_of c steps = record {
  formula = c.encoded.formula;
  steps = steps;
  bits = bits_of c;
  fields = c.encoded.watch;
}

abbrev pub verdict_of : RunClauses → Found → Verdict
verdict_of c (found.Model values) = v.Once (record { values = values; bits = bits_of c })
verdict_of c (found.Refuted steps) = v.Never (certificate_of c steps)
verdict_of c (found.Spent steps) = v.Spent (certificate_of c steps)

-- The verdict is that of what a search found of the clauses: values that make them true; or steps that refute them, of
-- which more is known; or valid steps, each a resolvent of its hints, that derive as many new clauses as the budget.
-- None stands behind the empty clause, and their numbers are short where few variables are.
pub record Settles (more : Cnf → List Step → Type 0) (budget : ℕ) (c : RunClauses) (verdict : Verdict)
    : Type 0 where
  pub found : Found
  pub verdict_is : verdict ≡ verdict_of c found
  pub small : c.encoded.formula.vars < 2 ^ 63
  pub literals : AreClauses c.encoded.formula.vars c.encoded.formula.clauses
  pub model : IfModel found (λ values. formula_true (value_of values) c.encoded.formula.clauses ≡ true)
  pub refuted : IfRefuted found (λ steps. (id : ℕ) × Refutes c.encoded.formula.clauses steps id × EndsEmpty steps id)
  pub known : IfRefuted found (more c.encoded.formula)
  pub valid : IfSpent found (λ steps. Valid c.encoded.formula.clauses steps)
  pub resolved : IfSpent found (λ steps. Resolved c.encoded.formula.clauses steps)
  pub count : IfSpent found (λ steps. length (derived c.encoded.formula.clauses steps) ≡ budget)
  pub few : IfSpent found (λ steps. budget < 3 ^ c.encoded.formula.vars)
  pub steps : IfSteps found AreSteps
  pub short : IfSteps found (λ steps. c.encoded.formula.vars < 10 ^ 18 → AreShort steps)
