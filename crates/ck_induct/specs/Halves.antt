-- Meaning: The two halves of an induction on the runs of a design: which lists of maps they are about, which of these
-- are sought, when clauses say exactly so, and which traces show one (rule of this project).
use Rattle.std.specs.Prelude.{◌≡◌, ◌↔◌, ℕ, ◌+◌, ◌<◌, ◌≤◌, Bool, true, false, List, [], ◌∷◌, ◌++◌, length, take, ℤ, pos}
use Rattle.fv_text.specs.declared.trace.Trace.{Trace}
use Rattle.vl_size.specs.Size.{Values}
use Rattle.vl_mean.specs.Parts.{Part}
use Rattle.vl_mean.specs.Runs.{Each, HasReset, Holds, IsAssumed, KeepsOnce, Neighbours, Next}
use Rattle.ck_induct.specs.Steps.{FailsAt, IsStepRun}
use Rattle.cnf_form.specs.Cnf.{Cnf, formula_true}
use Rattle.ck_design.specs.declared.note.Note.{Note}
use Rattle.ck_design.specs.Retirements.{values_at}
use Rattle.ck_design.specs.Tight.{Agree}
use Rattle.ck_design.specs.Traces.{trace_of_run}

-- ---- lists of maps

-- k + 1 maps from any one on: each meets the design, neighbours step from one to the next and keep what is chosen once,
-- and the reset is 0 in each
pub record AreMapsOn (ps : List Part) (k : ℕ) (run : List Values) : Type 0 where
  pub cycles : length run ≡ k + 1
  pub holds : Each (Holds ps) run
  pub steps : Neighbours (Next ps) run
  pub no_reset : Each (HasReset ps 0) run
  pub once : Neighbours (KeepsOnce ps) run

-- for some cycle from 1 to k a run meets its assumptions up to it, and the map there lacks a property
pub record LacksWithin (ps : List Part) (has : Values → Bool) (k : ℕ) (run : List Values) : Type 0 where
  pub at : ℕ
  pub some : 1 ≤ at
  pub few : at ≤ k
  pub assumed : IsAssumed ps (take (at + 1) run)
  pub lacks : has (values_at run at) ≡ false

-- all assumptions hold in each map, those before k have the property, and the one in k lacks it
pub record LacksLast (ps : List Part) (has : Values → Bool) (k : ℕ) (run : List Values) : Type 0 where
  pub assumed : IsAssumed ps run
  pub before : (j : ℕ) → j < k → has (values_at run j) ≡ true
  pub lacks : has (values_at run k) ≡ false

-- ---- clauses

-- The last clause is one literal, the verdict. Each list of maps of a kind agrees with exactly one model of the clauses
-- before it, and each such model with a list. Where they agree, the verdict is true exactly where the list is sought.
pub record AreClausesOf (IsOne IsSought : List Values → Type 0) (notes : List Note) (formula : Cnf) : Type 0 where
  pub before : List (List ℤ)
  pub last : formula.clauses ≡ before ++ (pos formula.vars ∷ []) ∷ []
  pub model : (run : List Values) → IsOne run
      → (v : ℕ → Bool) × (formula_true v before ≡ true) × Agree v run notes
  pub one : (run : List Values) (v w : ℕ → Bool) → IsOne run → formula_true v before ≡ true
      → formula_true w before ≡ true → Agree v run notes → Agree w run notes
      → (k : ℕ) → 1 ≤ k → k ≤ formula.vars → v k ≡ w k
  pub run : (v : ℕ → Bool) → formula_true v before ≡ true
      → (run : List Values) × IsOne run × Agree v run notes
  pub verdict : (v : ℕ → Bool) (run : List Values) → formula_true v before ≡ true → IsOne run
      → Agree v run notes
      → (v formula.vars ≡ true) ↔ IsSought run

-- ---- traces

-- the trace is that of a run up to a cycle from 1 to k, which meets its assumptions, lacks a property in the cycle, and
-- has it in those from 1 on before
pub record ShowsFailing (ps : List Part) (has : Values → Bool) (k : ℕ) (trace : Trace) : Type 0 where
  pub cycle : ℕ
  pub some : 1 ≤ cycle
  pub few : cycle ≤ k
  pub run : List Values
  pub fails : FailsAt ps has cycle run
  pub before : (i : ℕ) → 1 ≤ i → i < cycle → has (values_at run i) ≡ true
  pub shown : trace ≡ trace_of_run ps run

-- the trace is that of a step run of length k
pub record ShowsStep (ps : List Part) (has : Values → Bool) (k : ℕ) (trace : Trace) : Type 0 where
  pub run : List Values
  pub step : IsStepRun ps has k run
  pub shown : trace ≡ trace_of_run ps run
