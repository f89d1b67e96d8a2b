-- Meaning: `lrat CNF PROOF`: whether the steps of a proof refute the clauses of a file, or why that isn't known. Rules
-- of this project.
use Rattle.std.specs.Prelude.{◌≡◌, ℕ, false, List, [], ◌∷◌, ◌++◌, Ok, Bool, ℤ}
use Rattle.fv_base.specs.Outside.{Told, Lacks, ReadGives, Rose}
use Rattle.fv_base.specs.declared.event.Event.{Event}
use Rattle.fv_base.specs.declared.event.Event.TheVariants.{Gave, Lacked, Failed}
use Rattle.cnf_form.specs.Cnf.{Cnf, formula_true}
use Rattle.cnf_text.specs.Dimacs.{formula_of}
use Rattle.lrat_check.specs.Steps.{Refutes}
use Rattle.lrat_check.specs.Texts.{steps_of}
use Rattle.lrat_check.specs.declared.step.Step.{Step}
use Rattle.lrat_texts.specs.Formulas.{SaysFormula}
use Rattle.lrat_texts.specs.Steps.{SaysSteps}
use Rattle.rvf_case.specs.Cases.{Seen}
use Rattle.rvf_report.specs.Lines.{absent_line, unread_line}
use Rattle.rvf_report.specs.declared.delivery.Delivery.{Delivery}
use Rattle.rvf_report.specs.declared.delivery.Delivery.TheVariants.{Line}
use Rattle.rvf_report.specs.declared.status.Status.{Status}
use Rattle.rvf_report.specs.declared.status.Status.TheVariants as s
use Rattle.rvf_core.specs.Certificate.{outcome, refuted_line}

-- the text says clauses that the steps of the other one refute, of which this is the id of the empty clause; and no
-- values make them true
pub record AreRefuted (clauses steps : List ℕ) (id : ℕ) : Type 0 where
  pub formula : Cnf
  pub says_formula : SaysFormula clauses formula
  pub list : List Step
  pub says_steps : SaysSteps steps list
  pub refutes : Refutes formula.clauses list id
  pub unsatisfiable : (values : ℕ → Bool) → formula_true values formula.clauses ≡ false

-- the same of what was read of the texts
pub record AreReadRefuted (clauses steps : List ℕ) (id : ℕ) : Type 0 where
  pub formula : Cnf
  pub formula_is : formula_of clauses ≡ Ok formula
  pub list : List Step
  pub list_is : steps_of steps ≡ Ok list
  pub refutes : Refutes formula.clauses list id
  pub unsatisfiable : (values : ℕ → Bool) → formula_true values formula.clauses ≡ false

-- what is known of steps, and of a proof's text, over clauses where the outcome has this status
abbrev pub IsSound : Status → List (List ℤ) → List Step → List Delivery → Type 0
IsSound s.Passed clauses steps report =
    (id : ℕ) × Refutes clauses steps id × ((values : ℕ → Bool) → formula_true values clauses ≡ false)
    × (report ≡ Line (refuted_line id) ∷ [])
IsSound status clauses steps report = Unit {0}

abbrev pub IsProof : Status → List (List ℤ) → List ℕ → List Delivery → Type 0
IsProof s.Passed clauses proof report =
    (steps : List Step) × (steps_of proof ≡ Ok steps) × IsSound s.Passed clauses steps report
IsProof status clauses proof report = Unit {0}

-- what is known of texts, as they were read, whose outcome has this status
abbrev pub IsProved : Status → List ℕ → List ℕ → List Delivery → Type 0
IsProved s.Passed clauses steps report =
    (id : ℕ) × AreReadRefuted clauses steps id × (report ≡ Line (refuted_line id) ∷ [])
IsProved status clauses steps report = Unit {0}

-- what is known of texts whose outcome has this status
abbrev pub IsSaid : Status → List ℕ → List ℕ → List Delivery → Type 0
IsSaid s.Passed clauses steps report =
    (id : ℕ) × AreRefuted clauses steps id × (report ≡ Line (refuted_line id) ∷ [])
IsSaid status clauses steps report = Unit {0}

-- both files gave bytes, and status and report are what the certificate comes to
pub record IsJudged (cnf proof : List ℕ) (held : Told) (status : Status) (report : List Delivery) : Type 0 where
  pub clauses : List ℕ
  pub gives_clauses : ReadGives held cnf clauses
  pub steps : List ℕ
  pub gives_steps : ReadGives held proof steps
  pub found : outcome clauses steps ≡ record { status = status; deliveries = report }
  pub proved : IsSaid status clauses steps report

-- the first of the two files that gave no bytes: the other one did
pub data IsNext (cnf proof : List ℕ) (held : Told) (name : List ℕ) : Type 0 where
  first : name ≡ cnf → IsNext cnf proof held name
  second : (clauses : List ℕ) → ReadGives held cnf clauses → name ≡ proof → IsNext cnf proof held name

-- what was read before it
abbrev pub before_next : (cnf proof : List ℕ) (held : Told) (name : List ℕ) → IsNext cnf proof held name → List Event
before_next cnf proof held name (first is) = []
before_next cnf proof held name (second clauses gives is) = Gave cnf clauses ∷ []

-- it isn't held, which was counted
pub record IsAbsent (cnf proof : List ℕ) (seen : Seen) (status : Status) (report : List Delivery) : Type 0 where
  pub name : List ℕ
  pub next : IsNext cnf proof seen.held name
  pub lacks : Lacks seen.held name
  pub counted : Rose seen.misses seen.misses_now
  pub status_is : status ≡ s.Absent
  pub report_is : report ≡ Line (absent_line name) ∷ []

-- it could not be read, which was counted
pub record IsUnread (cnf proof : List ℕ) (seen : Seen) (status : Status) (report : List Delivery) : Type 0 where
  pub name : List ℕ
  pub next : IsNext cnf proof seen.held name
  pub counted : Rose seen.faults seen.faults_now
  pub status_is : status ≡ s.ReadFault
  pub report_is : report ≡ Line (unread_line name) ∷ []

pub data Certifies (cnf proof : List ℕ) (seen : Seen) (status : Status) (report : List Delivery) : Type 0 where
  judged : IsJudged cnf proof seen.held status report → Certifies cnf proof seen status report
  absent : IsAbsent cnf proof seen status report → Certifies cnf proof seen status report
  unread : IsUnread cnf proof seen status report → Certifies cnf proof seen status report

-- what was read for it
abbrev pub certifies_reads : (cnf proof : List ℕ) (seen : Seen) (status : Status) (report : List Delivery)
    → Certifies cnf proof seen status report → List Event
certifies_reads cnf proof seen status report (judged h) = Gave cnf h.clauses ∷ (Gave proof h.steps ∷ [])
certifies_reads cnf proof seen status report (absent h) =
    before_next cnf proof seen.held h.name h.next ++ Lacked h.name ∷ []
certifies_reads cnf proof seen status report (unread h) =
    before_next cnf proof seen.held h.name h.next ++ Failed h.name ∷ []
