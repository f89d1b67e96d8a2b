-- Meaning: What is delivered of the questions of a case, in this order. Rules of this project.
use Rattle.std.specs.Prelude.{ℕ, Bool, false, if◌then◌else◌, List, [], ◌∷◌, ◌++◌, length, map, Option, Some, None}
use Rattle.std.specs.Prelude.{slice_get}
use Rattle.std.specs.List.{list_any}
use Rattle.cnf_form.specs.Cnf.{Cnf}
use Rattle.lrat_check.specs.declared.step.Step.{Step}
use Rattle.ck_cfg.specs.declared.kind.CheckKind.TheVariants as kinds
use Rattle.ck_cfg.specs.Kind.{is_kind}
use Rattle.ck_ask.specs.Questions.{question_kind, question_name}
use Rattle.ck_ask.specs.declared.question.Question.{Question}
use Rattle.rvf_judge.specs.declared.judged.Judged.{Judged}
use Rattle.rvf_case.specs.Loading.{Loaded}
use Rattle.rvf_case.specs.Cases.{loaded_for}
use Rattle.rvf_case.specs.declared.case.Case.{Case}
use Rattle.rvf_report.specs.Reports.{Plan}
use Rattle.rvf_report.specs.declared.delivery.Delivery.{Delivery}
use Rattle.rvf_report.specs.declared.delivery.Delivery.TheVariants.{Line}
use Rattle.rvf_checks.specs.Answers.{IsAnswerAt, name_at}
use Rattle.rvf_checks.specs.CheckLines.{bench_line, note_line, skip_line, targets_line, total_line}
use Rattle.rvf_checks.specs.Counting.{counted_at, counts_of, no_counts, status_in}
use Rattle.rvf_checks.specs.Deliveries.{deliveries_in}
use Rattle.rvf_checks.specs.declared.counts.Counts.{Counts}
use Rattle.rvf_checks.specs.declared.wording.Wording.{Wording}
use Rattle.rvf_checks.specs.declared.wording.Wording.TheVariants as wording

-- the note, where there is one
abbrev pub note_of : Bool → List Delivery
note_of noted = if noted then Line note_line ∷ [] else []

-- a line for each depth line that is skipped, by its first word
abbrev pub skips_of : List (List ℕ) → List Delivery
skips_of skips = map (λ kind. Line (skip_line kind)) skips

-- the lines before the first check
abbrev pub head : Bool → List (List ℕ) → List Delivery
head noted skips = note_of noted ++ skips_of skips

-- these in the words of `run`, and nothing in others
abbrev pub head_in : Wording → Bool → List (List ℕ) → List Delivery
head_in wording.Run noted skips = head noted skips
head_in (wording.Bench size) noted skips = []
head_in wording.Cover noted skips = []
head_in wording.Zb noted skips = []

-- of each question that is answered its files and its line, in order
abbrev pub answered : Wording → List ℕ → ℕ → List Question → List Judged → List Delivery
answered words folder budget [] js = []
answered words folder budget (q ∷ qs) [] = []
answered words folder budget (q ∷ qs) (j ∷ js) =
    deliveries_in words folder (question_name q) budget j ++ answered words folder budget qs js

-- the line of counts; only that of `run` tells of depth lines that are skipped
abbrev pub last_line : Wording → Counts → ℕ → List ℕ
last_line wording.Run c skipped = total_line c skipped
last_line (wording.Bench size) c skipped = bench_line size c
last_line wording.Cover c skipped = targets_line c
last_line wording.Zb c skipped = total_line c 0

abbrev pub last_in : Wording → Counts → ℕ → List Delivery
last_in words c skipped = Line (last_line words c skipped) ∷ []

-- the report as far as these answers go
abbrev pub begun : Wording → List ℕ → ℕ → Bool → List (List ℕ) → List Question → List Judged → List Delivery
begun words folder budget noted skips qs js = head_in words noted skips ++ answered words folder budget qs js

-- and the whole of it, once all are answered
abbrev pub whole : Wording → List ℕ → ℕ → Bool → List (List ℕ) → List Question → List Judged → List Delivery
whole words folder budget noted skips qs js =
    begun words folder budget noted skips qs js ++ last_in words (counts_of qs js) (length skips)

-- a check of a row has a text with other arithmetic operations
abbrev pub has_altops : Option Loaded → Bool
has_altops (Some l) = l.opts.altops
has_altops None = false

-- and this is so of some check of the case
abbrev pub is_noted : Case → Bool
is_noted case =
    list_any (λ q. if is_kind (question_kind q) kinds.Insn then has_altops (loaded_for case q) else false)
    case.questions

-- all of this job by job
abbrev pub plan_of : (ℕ → Cnf → List Step → Type 0) → Case → Wording → List ℕ → ℕ → Plan Judged Counts
plan_of more case words folder budget = record {
  size = length case.questions;
  is_answer = λ place j. IsAnswerAt more case budget place j;
  head = head_in words (is_noted case) case.config.skips;
  deliveries = λ place j. deliveries_in words folder (name_at case.questions place) budget j;
  last = λ counts. last_in words counts (length case.config.skips);
  none = no_counts;
  counted = λ place counts j. counted_at (slice_get case.questions place) counts j;
  status = status_in;
}
