-- Meaning: What a check of one cycle of a design comes to by induction on the length of runs, and the texts that say so
-- (rule of this project).
use Rattle.std.specs.Prelude.{◌≡◌, ℕ, ◌<◌, ◌≤◌, ◌^◌, Bool, true, false, List, length}
use Rattle.rv_table.specs.declared.retire.Opts.{Opts}
use Rattle.vl_size.specs.Size.{Values}
use Rattle.vl_mean.specs.Parts.{Part}
use Rattle.vl_mean.specs.Runs.{IsAssumed, IsRun}
use Rattle.ck_induct.specs.Steps.{FailsAt, IsStepRun}
use Rattle.cnf_form.specs.Cnf.{Cnf, formula_true}
use Rattle.lrat_check.specs.declared.step.Step.{Step}
use Rattle.lrat_check.specs.Resolved.{Resolved, derived}
use Rattle.lrat_check.specs.Steps.{Refutes, Valid}
use Rattle.sat_search.specs.Found.{EndsEmpty}
use Rattle.rvfi_port.specs.declared.port.Wants.{Wants}
use Rattle.ck_cfg.specs.declared.check.Check.{Check}
use Rattle.ck_gen.specs.Monitors.{is_of_one_cycle}
use Rattle.ck_design.specs.declared.note.Note.{Note}
use Rattle.ck_design.specs.Retirements.{values_at}
use Rattle.ck_design.specs.Traces.{trace_of_run}
use Rattle.ck_induct.specs.Halves.{AreClausesOf, AreMapsOn, LacksLast, LacksWithin}
use Rattle.ck_induct.specs.OneCycle.{holds_in_map}
use Rattle.vcd_dump.specs.Vcd.{vcd_text}
use Rattle.rvf_judge.specs.declared.judged.CertificateTexts.{CertificateTexts}
use Rattle.rvf_judge.specs.declared.induction.Induction.{Induction}
use Rattle.rvf_judge.specs.declared.induction.Induction.TheVariants as induction
use Rattle.rvf_judge.specs.Judged.{AreTexts, Fits, SayBoth}

-- ---- one half: lists of maps of a kind, of which some are sought

-- The texts hold clauses whose models are the lists of the kind, seen at the notes, with a last one that demands a
-- sought list, and steps that refute them, of which more is known; none stands behind the empty clause. The files are
-- read back as they were meant.
pub record IsRefuted (IsOne IsSought : List Values → Type 0) (more : ℕ → Cnf → List Step → Type 0)
    (budget : ℕ)
    (texts : CertificateTexts) : Type 0 where
  pub notes : List Note
  pub formula : Cnf
  pub steps : List Step
  pub written : AreTexts notes formula steps texts
  pub clauses : AreClausesOf IsOne IsSought notes formula
  pub refuted : (id : ℕ) × Refutes formula.clauses steps id × EndsEmpty steps id
  pub unsatisfiable : (values : ℕ → Bool) → formula_true values formula.clauses ≡ false
  pub known : more budget formula steps
  pub read_back : Fits formula → SayBoth formula steps texts

-- The budget is used up. The texts hold such clauses, and steps that derive from them as many clauses as the budget,
-- each a resolvent of its hints and new to unit propagation, none of them empty; this takes so many variables. The
-- files are read back as they were meant.
pub record IsExhausted (IsOne IsSought : List Values → Type 0) (budget : ℕ) (texts : CertificateTexts)
    : Type 0 where
  pub notes : List Note
  pub formula : Cnf
  pub steps : List Step
  pub written : AreTexts notes formula steps texts
  pub clauses : AreClausesOf IsOne IsSought notes formula
  pub valid : Valid formula.clauses steps
  pub resolved : Resolved formula.clauses steps
  pub count : length (derived formula.clauses steps) ≡ budget
  pub few : budget < 3 ^ formula.vars
  pub read_back : Fits formula → SayBoth formula steps texts

-- ---- both halves, of a property of one map

module _ (ps : List Part) (has : Values → Bool) (k : ℕ) where
  -- no run up to a cycle from 1 to k that meets its assumptions lacks the property there
  abbrev pub NoneFailsFirst : Type 0
  NoneFailsFirst = (j : ℕ) (run : List Values) → 1 ≤ j → j ≤ k → FailsAt ps has j run → ⊥

  -- the text is the dump of a run up to the first cycle from 1 to k in which it lacks the property
  pub record IsFailing (dump : List ℕ) : Type 0 where
    pub cycle : ℕ
    pub some : 1 ≤ cycle
    pub few : cycle ≤ k
    pub run : List Values
    pub fails : FailsAt ps has cycle run
    pub before : (i : ℕ) → 1 ≤ i → i < cycle → has (values_at run i) ≡ true
    pub dump_is : dump ≡ vcd_text (trace_of_run ps run)

  -- no run fails so, and the text is the dump of a step run of length k
  pub record IsOpen (dump : List ℕ) : Type 0 where
    pub base : NoneFailsFirst
    pub run : List Values
    pub step : IsStepRun ps has k run
    pub dump_is : dump ≡ vcd_text (trace_of_run ps run)

  -- neither is there, and the texts say so; so each run of any length has the property in its last cycle
  pub record IsProved (more : ℕ → Cnf → List Step → Type 0) (budget : ℕ) (base step : CertificateTexts)
      : Type 0 where
    pub base_none : NoneFailsFirst
    pub base_refuted : IsRefuted (IsRun ps k) (LacksWithin ps has k) more budget base
    pub step_none : (run : List Values) → IsStepRun ps has k run → ⊥
    pub step_refuted : IsRefuted (AreMapsOn ps k) (LacksLast ps has k) more budget step
    pub always : (j : ℕ) (run : List Values) → 1 ≤ j → IsRun ps j run → IsAssumed ps run
        → has (values_at run j) ≡ true

  -- no run fails so, and the budget is used up for the step
  pub record IsSpentStep (budget : ℕ) (texts : CertificateTexts) : Type 0 where
    pub base : NoneFailsFirst
    pub step : IsExhausted (AreMapsOn ps k) (LacksLast ps has k) budget texts

  abbrev pub IsInductedOn : (ℕ → Cnf → List Step → Type 0) → ℕ → Induction → Type 0
  IsInductedOn more budget induction.Skipped = ⊥
  IsInductedOn more budget (induction.Fails dump) = IsFailing dump
  IsInductedOn more budget (induction.Open dump) = IsOpen dump
  IsInductedOn more budget (induction.Proved base step) = IsProved more budget base step
  IsInductedOn more budget (induction.SpentBase texts) =
      IsExhausted (IsRun ps k) (LacksWithin ps has k) budget texts
  IsInductedOn more budget (induction.SpentStep texts) = IsSpentStep budget texts

-- ---- of a check

-- where its kind looks at one cycle, by the property of a map; else it is skipped
abbrev pub IsInductedBy : Bool → (ℕ → Cnf → List Step → Type 0) → List Part → ℕ → Wants → Check → Opts → ℕ → ℕ
    → Induction → Type 0
IsInductedBy true more ps channels wants check opts k budget made =
    IsInductedOn ps (holds_in_map channels wants check opts) k more budget made
IsInductedBy false more ps channels wants check opts k budget made = made ≡ induction.Skipped

abbrev pub IsInducted : (ℕ → Cnf → List Step → Type 0) → List Part → ℕ → Wants → Check → Opts → ℕ → ℕ → Induction
    → Type 0
IsInducted more ps channels wants check opts k budget made =
    IsInductedBy (is_of_one_cycle check.kind) more ps channels wants check opts k budget made
