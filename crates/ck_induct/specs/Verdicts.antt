-- Between functions: What the clauses of the two halves of an induction come to on a net (rule of this project).
use Rattle.std.specs.Prelude.{◌≡◌, ℕ, ◌<◌, ◌^◌, Bool, false, List, [], length, map}
use Rattle.std.specs.List.{AllByRecursion}
use Rattle.wn_net.specs.Width.{IsWidth}
use Rattle.wn_net.specs.Net.{Netlist}
use Rattle.wn_run.specs.Runs.{Choices, AreChoicesOf}
use Rattle.cnf_form.specs.Cnf.{Cnf, formula_true, value_of}
use Rattle.lrat_check.specs.declared.step.Step.{Step}
use Rattle.lrat_check.specs.Steps.{AreSteps, Refutes, Valid}
use Rattle.lrat_check.specs.Resolved.{Resolved, derived}
use Rattle.lrat_check.specs.Texts.{AreShort}
use Rattle.sat_search.specs.Found.{EndsEmpty}
use Rattle.bb_blast.specs.Choice.{all_places}
use Rattle.bb_clauses.specs.Models.{read_at}
use Rattle.bm_unroll.specs.declared.frames.Source.{Source}
use Rattle.bm_unroll.specs.Frames.{AreChosen, AreDistinct, Chooses, IsChoice, chosen, source_width}
use Rattle.bm_induct.specs.Halves.{IsStepChoice}
use Rattle.bm_induct.specs.StepRuns.{IsBaseRun, IsStepRun}
use Rattle.bm_decide.specs.Runs.{ModelsAreRuns}
use Rattle.bm_decide.specs.declared.verdict.ChoiceBits.{ChoiceBits}
use Rattle.bm_decide.specs.declared.verdict.Certificate.{Certificate}
use Rattle.bm_decide.specs.declared.verdict.Witness.{Witness}
use Rattle.bm_decide.specs.declared.verdict.Verdict.{Verdict}
use Rattle.bm_decide.specs.declared.verdict.Verdict.TheVariants as v

-- each source is one that may be chosen, none stands twice, and each bit of it, from 1 to 128, has its variable
pub record AreBitsBy (net : Netlist) (IsSource : Source → Type 0) (bits : ChoiceBits) : Type 0 where
  pub sources : AllByRecursion IsSource bits.sources
  pub distinct : AreDistinct bits.sources
  pub widths : bits.widths ≡ map (source_width net) bits.sources
  pub wide : AllByRecursion IsWidth bits.widths
  pub places : bits.places ≡ all_places 0 0 bits.widths
  pub chosen : AreChosen net bits.widths bits.sources

module _ (net : Netlist) (IsSource : Source → Type 0) (IsBad : Choices → Type 0) where
  -- The models of the clauses before the last are the choices of the net; the last clause is that they are bad.
  abbrev pub AreOfChoices : Certificate → Type 0
  AreOfChoices c =
      ModelsAreRuns net IsBad (λ ch. []) c.bits.sources (read_at c.bits.places c.bits.widths) c.fields c.formula

  -- values are those of bad choices
  pub record IsOnce (x : Witness) : Type 0 where
    pub bits : AreBitsBy net IsSource x.bits
    pub chooses : Chooses net x.bits.sources (read_at x.bits.places x.bits.widths (value_of x.values))
    pub bad : (ch : Choices) → AreChoicesOf net ch
        → map (chosen ch) x.bits.sources ≡ read_at x.bits.places x.bits.widths (value_of x.values) → IsBad ch

  -- No choices are bad, and steps, of which more is known, refute the clauses of some that would be; none stands behind
  -- the empty clause, and their numbers are short where few variables are.
  pub record IsNever (more : Cnf → List Step → Type 0) (c : Certificate) : Type 0 where
    pub bits : AreBitsBy net IsSource c.bits
    pub tight : AreOfChoices c
    pub never : (ch : Choices) → AreChoicesOf net ch → IsBad ch → ⊥
    pub refuted : (id : ℕ) × Refutes c.formula.clauses c.steps id × EndsEmpty c.steps id
    pub unsatisfiable : (values : ℕ → Bool) → formula_true values c.formula.clauses ≡ false
    pub known : more c.formula c.steps
    pub steps : AreSteps c.steps
    pub short : c.formula.vars < 10 ^ 18 → AreShort c.steps

  -- as many clauses as the budget follow from those of bad choices, none of them empty
  pub record IsSpent (budget : ℕ) (c : Certificate) : Type 0 where
    pub bits : AreBitsBy net IsSource c.bits
    pub tight : AreOfChoices c
    pub valid : Valid c.formula.clauses c.steps
    pub resolved : Resolved c.formula.clauses c.steps
    pub count : length (derived c.formula.clauses c.steps) ≡ budget
    pub few : budget < 3 ^ c.formula.vars
    pub steps : AreSteps c.steps
    pub short : c.formula.vars < 10 ^ 18 → AreShort c.steps

  abbrev pub IsSettledBy : (Cnf → List Step → Type 0) → ℕ → Verdict → Type 0
  IsSettledBy more budget (v.Never c) = IsNever more c
  IsSettledBy more budget (v.Once x) = IsOnce x
  IsSettledBy more budget (v.Spent c) = IsSpent budget c

-- of the base: the choices are those of runs up to k, and those of a run whose bad node is other than 0 in a cycle from
-- 1 on, up to which it meets the assumptions, are bad
abbrev pub IsBaseSettled : Netlist → ℕ → ℕ → (Cnf → List Step → Type 0) → ℕ → Verdict → Type 0
IsBaseSettled net bad k more budget verdict =
    IsSettledBy net (IsChoice net k) (IsBaseRun net bad k) more budget verdict

-- of the step: the choices are those of step runs, whose registers and words begin with any numbers, and those of a
-- step run of length k are bad
abbrev pub IsStepSettled : Netlist → ℕ → ℕ → (Cnf → List Step → Type 0) → ℕ → Verdict → Type 0
IsStepSettled net bad k more budget verdict =
    IsSettledBy net (IsStepChoice net k) (IsStepRun net bad k) more budget verdict
