-- From what a search found of clauses to the choices that these are clauses of.
use Rattle.std.specs.Prelude.{◌≡◌, ℕ, ◌<◌, ◌^◌, Bool, false, List, [], length}
use Rattle.std.proofs.Common.{sym, ◌∙◌, subst}
use Rattle.std.proofs.lemmas.Bool.{false≢true}
use Rattle.wn_net.specs.Net.{Netlist}
use Rattle.wn_run.specs.Runs.{Choices, AreChoicesOf}
use Rattle.cnf_form.specs.Cnf.{Cnf, AreClauses, formula_true, value_of}
use Rattle.lrat_check.specs.declared.step.Step.{Step}
use Rattle.lrat_check.specs.Steps.{Refutes, Valid, AreSteps}
use Rattle.lrat_check.specs.Resolved.{Resolved, derived}
use Rattle.lrat_check.specs.Texts.{AreShort}
use Rattle.lrat_check.proofs.Sound.{judged_sound}
use Rattle.lrat_check.proofs.Stores.{numbered_held}
use Rattle.sat_search.specs.declared.found.Found.{Found}
use Rattle.sat_search.specs.declared.found.Found.TheVariants as found
use Rattle.sat_search.specs.Found.{EndsEmpty, IfModel, IfRefuted, IfSpent, IfSteps}
use Rattle.bb_clauses.specs.Models.{AreTrue}
use Rattle.bm_unroll.specs.declared.frames.Source.{Source}
use Rattle.bm_decide.specs.declared.runs.RunClauses.{RunClauses}
use Rattle.bm_decide.specs.declared.verdict.Verdict.{Verdict}
use Rattle.bm_decide.specs.Runs.{ModelsAreRuns}
use Rattle.bm_decide.specs.Settled.{Settles, bits_of, certificate_of, verdict_of}
use Rattle.bm_decide.proofs.Joining.{parts, whole}
use Rattle.ck_induct.specs.Verdicts.{AreBitsBy, AreOfChoices, IsSettledBy}

none_satisfies : (formula : Cnf) (steps : List Step) (id : ℕ) → formula.vars < 2 ^ 63
    → AreClauses formula.vars formula.clauses → AreSteps steps → Refutes formula.clauses steps id
    → (v : ℕ → Bool) → formula_true v formula.clauses ≡ false
none_satisfies formula steps id small clauses are refutes v =
    judged_sound v (record { id = id }) formula.clauses steps
    (numbered_held formula.vars formula.clauses small clauses) are refutes

none_bad : (net : Netlist) (IsBad : Choices → Type 0) (shown : Choices → List ℕ) (sources : List Source)
    (read : (ℕ → Bool) → List ℕ) (words : List (List ℕ)) (formula : Cnf) (steps : List Step) (id : ℕ)
    → formula.vars < 2 ^ 63 → AreClauses formula.vars formula.clauses → AreSteps steps
    → ModelsAreRuns net IsBad shown sources read words formula → Refutes formula.clauses steps id
    → (ch : Choices) → AreChoicesOf net ch → IsBad ch → ⊥
none_bad net IsBad shown sources read words formula steps id small clauses are m refutes ch of x =
    let model = m.complete ch of in
    let v = model.0 in
    let true_one = (m.verdict v ch model.1 of (sym model.2)).1 x in
    false≢true
    (sym (none_satisfies formula steps id small clauses are refutes v)
    ∙ whole m.before formula v m.last model.1 true_one)

module _ (net : Netlist) (IsSource : Source → Type 0) (IsBad : Choices → Type 0) (more : Cnf → List Step → Type 0)
    (budget : ℕ) (c : RunClauses) where
  of_found : (x : Found) → AreBitsBy net IsSource (bits_of c)
      → AreOfChoices net IsSource IsBad (certificate_of c [])
      → c.encoded.formula.vars < 2 ^ 63 → AreClauses c.encoded.formula.vars c.encoded.formula.clauses
      → IfModel x (λ values. AreTrue c.encoded.formula.clauses (value_of values))
      → IfRefuted x (λ steps. (id : ℕ) × Refutes c.encoded.formula.clauses steps id × EndsEmpty steps id)
      → IfRefuted x (more c.encoded.formula)
      → IfSpent x (λ steps. Valid c.encoded.formula.clauses steps)
      → IfSpent x (λ steps. Resolved c.encoded.formula.clauses steps)
      → IfSpent x (λ steps. length (derived c.encoded.formula.clauses steps) ≡ budget)
      → IfSpent x (λ steps. budget < 3 ^ c.encoded.formula.vars)
      → IfSteps x AreSteps → IfSteps x (λ steps. c.encoded.formula.vars < 10 ^ 18 → AreShort steps)
      → IsSettledBy net IsSource IsBad more budget (verdict_of c x)
  of_found (found.Model values) bits m small clauses model r l v s d b steps short =
      let f = c.encoded.formula in
      let v = value_of values in
      let is = parts m.before f v m.last model in
      record {
        bits = bits;
        chooses = m.choice v is.0;
        bad = λ ch of same. (m.verdict v ch is.0 of same).0 is.1;
      }
  of_found (found.Refuted steps) bits m small clauses model r l v s d b are short = record {
    bits = bits;
    tight = m;
    never = none_bad net IsBad (λ ch. []) _ _ _ c.encoded.formula steps r.0 small clauses are m r.1;
    refuted = r;
    unsatisfiable = none_satisfies c.encoded.formula steps r.0 small clauses are r.1;
    known = l;
    steps = are;
    short = short;
  }
  of_found (found.Spent steps) bits m small clauses model r l v s d b are short = record {
    bits = bits;
    tight = m;
    valid = v;
    resolved = s;
    count = d;
    few = b;
    steps = are;
    short = short;
  }

  -- whichever choices are bad
  pub settled_by : (verdict : Verdict) → AreBitsBy net IsSource (bits_of c)
      → AreOfChoices net IsSource IsBad (certificate_of c []) → Settles more budget c verdict
      → IsSettledBy net IsSource IsBad more budget verdict
  settled_by verdict bits m s =
      subst (λ x. IsSettledBy net IsSource IsBad more budget x) (sym s.verdict_is)
      (of_found s.found bits m s.small s.literals s.model s.refuted s.known s.valid s.resolved s.count s.few s.steps
      s.short)
