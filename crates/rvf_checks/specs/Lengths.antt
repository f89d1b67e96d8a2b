-- Meaning: What is delivered of the checks of a case in runs of every length, in this order. Rules of this project.
use Rattle.std.specs.Prelude.{◌≡◌, ℕ, ◌+◌, false, List, [], ◌∷◌, ◌++◌, length, codes, Option, Some, None, slice_get}
use Rattle.vl_mean.specs.Parts.{Part}
use Rattle.cnf_form.specs.Cnf.{Cnf}
use Rattle.lrat_check.specs.declared.step.Step.{Step}
use Rattle.rvfi_port.specs.declared.port.Wants.{Wants}
use Rattle.ck_cfg.specs.declared.check.Check.{Check}
use Rattle.ck_cfg.specs.Checks.{checks_of}
use Rattle.ck_ask.specs.declared.question.Question.TheVariants as question
use Rattle.ck_design.specs.Loaded.{IsLoaded}
use Rattle.ck_design.specs.Traces.{HaveOwnNames}
use Rattle.ck_gen.specs.Monitors.{is_of_one_cycle}
use Rattle.rvf_judge.specs.declared.judged.CertificateTexts.{CertificateTexts}
use Rattle.rvf_judge.specs.declared.induction.Induction.{Induction}
use Rattle.rvf_judge.specs.declared.induction.Induction.TheVariants as induction
use Rattle.rvf_judge.specs.Inducted.{IsInducted}
use Rattle.rvf_case.specs.Loading.{Loaded}
use Rattle.rvf_case.specs.Askings as asking
use Rattle.rvf_case.specs.Cases.{loaded_for}
use Rattle.rvf_case.specs.Texts.{questions_of}
use Rattle.rvf_case.specs.declared.case.Case.{Case}
use Rattle.rvf_report.specs.Reports.{Plan}
use Rattle.rvf_report.specs.declared.delivery.Delivery.{Delivery}
use Rattle.rvf_report.specs.declared.delivery.Delivery.TheVariants.{Line}
use Rattle.rvf_checks.specs.CheckLines.{fail_line, skip_line, spent_line}
use Rattle.rvf_checks.specs.Checked.{head, is_noted}
use Rattle.rvf_checks.specs.Deliveries.{certified, dumped, files_of}
use Rattle.rvf_checks.specs.LengthCounting.{length_status_in, lengths_of, no_lengths, with_length}
use Rattle.rvf_checks.specs.LengthLines.{lengths_line, open_line, proved_line}
use Rattle.rvf_checks.specs.declared.length_counts.LengthCounts.{LengthCounts}

-- ---- files and lines

-- the names of the files of the two halves of a check
abbrev pub base_name : List ℕ → List ℕ
base_name name = name ++ codes ".base"

abbrev pub step_name : List ℕ → List ℕ
step_name name = name ++ codes ".step"

-- the clauses and the steps of both halves, and then a line
abbrev pub both_files : List ℕ → List ℕ → ℕ → CertificateTexts → CertificateTexts → List Delivery
both_files folder name steps base step =
    files_of folder (base_name name) base ++ certified folder (step_name name) step (proved_line name steps)

-- what is delivered of a check with this name, by what it comes to: its files in a folder, and its line
abbrev pub length_deliveries : List ℕ → List ℕ → ℕ → ℕ → Induction → List Delivery
length_deliveries folder name steps budget induction.Skipped = Line (skip_line name) ∷ []
length_deliveries folder name steps budget (induction.Fails dump) = dumped folder name dump (fail_line name)
length_deliveries folder name steps budget (induction.Open dump) =
    dumped folder (step_name name) dump (open_line name)
length_deliveries folder name steps budget (induction.Proved base step) =
    both_files folder name steps base step
length_deliveries folder name steps budget (induction.SpentBase texts) =
    certified folder (base_name name) texts (spent_line name budget)
length_deliveries folder name steps budget (induction.SpentStep texts) =
    certified folder (step_name name) texts (spent_line name budget)

-- of each check that is answered its files and its line, in order
abbrev pub lengths_answered : List ℕ → ℕ → ℕ → List Check → List Induction → List Delivery
lengths_answered folder steps budget [] made = []
lengths_answered folder steps budget (x ∷ xs) [] = []
lengths_answered folder steps budget (x ∷ xs) (m ∷ ms) =
    length_deliveries folder x.name steps budget m ++ lengths_answered folder steps budget xs ms

-- the line of counts, where so many depth lines are skipped
abbrev pub lengths_last : LengthCounts → ℕ → List Delivery
lengths_last c skipped = Line (lengths_line c (skipped + c.skipped)) ∷ []

-- ---- answers

module _ (more : ℕ → Cnf → List Step → Type 0) (case : Case) (steps budget : ℕ) where
  -- What a check comes to, of each design that what is loaded of its text is that of; one that looks at more than one
  -- cycle is skipped, whatever its text is.
  pub record IsLength (x : Check) (made : Induction) : Type 0 where
    pub inducted : (l : Loaded) → loaded_for case (question.Check x) ≡ Some l → (ps : List Part) (wants : Wants)
        → IsLoaded ps l.net l.names case.config.nret wants l.port → HaveOwnNames ps
        → IsInducted more ps case.config.nret wants x l.opts steps budget made
    pub other : is_of_one_cycle x.kind ≡ false → made ≡ induction.Skipped

  -- of the first of some checks, as many as there are answers
  abbrev pub AreLengths : List Check → List Induction → Type 0
  AreLengths xs [] = Unit {0}
  AreLengths [] (m ∷ ms) = ⊥
  AreLengths (x ∷ xs) (m ∷ ms) = IsLength x m × AreLengths xs ms

  -- the answer is one of the check at a place
  pub record IsLengthAt (place : ℕ) (made : Induction) : Type 0 where
    pub check : Check
    pub there : slice_get (checks_of case.config) place ≡ Some check
    pub answers : IsLength check made

-- the questions of the case are those of an induction with so many steps
abbrev pub AreOfSteps : Case → ℕ → Type 0
AreOfSteps case steps = case.questions ≡ questions_of (asking.Lengths steps) case.config

-- the name of a check, where there is one
abbrev pub check_name : Option Check → List ℕ
check_name None = []
check_name (Some x) = x.name

-- all of this job by job, of these checks
abbrev pub lengths_plan : (ℕ → Cnf → List Step → Type 0) → Case → List Check → List ℕ → ℕ → ℕ
    → Plan Induction LengthCounts
lengths_plan more case checks folder steps budget = record {
  size = length checks;
  is_answer = λ place made. IsLengthAt more case steps budget place made;
  head = head (is_noted case) case.config.skips;
  deliveries = λ place made.
      length_deliveries folder (check_name (slice_get checks place)) steps budget made;
  last = λ counts. lengths_last counts (length case.config.skips);
  none = no_lengths;
  counted = λ place counts made. with_length counts made;
  status = length_status_in;
}

-- the report as far as these answers go, and the whole of it
abbrev pub lengths_begun : Case → List ℕ → ℕ → ℕ → List Induction → List Delivery
lengths_begun case folder steps budget made =
    head (is_noted case) case.config.skips
    ++ lengths_answered folder steps budget (checks_of case.config) made

abbrev pub lengths_whole : Case → List ℕ → ℕ → ℕ → List Induction → List Delivery
lengths_whole case folder steps budget made =
    lengths_begun case folder steps budget made ++ lengths_last (lengths_of made) (length case.config.skips)
