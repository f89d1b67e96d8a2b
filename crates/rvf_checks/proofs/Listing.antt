-- What is answered and delivered job by job, said of the list of questions.
use Rattle.std.proofs.Common.{◌≡◌, ℕ, zero, suc, ◌+◌, List, [], ◌∷◌, ◌++◌, length, drop, Some, slice_get, refl, sym, ap}
use Rattle.std.proofs.Common.{◌∙◌, subst, arith}
use Rattle.cnf_form.specs.Cnf.{Cnf}
use Rattle.lrat_check.specs.declared.step.Step.{Step}
use Rattle.ck_ask.specs.Questions.{question_name}
use Rattle.ck_ask.specs.declared.question.Question.{Question}
use Rattle.rvf_judge.specs.declared.judged.Judged.{Judged}
use Rattle.rvf_case.specs.declared.case.Case.{Case}
use Rattle.rvf_report.specs.Reports as jobs
use Rattle.rvf_report.specs.Reports.{AreAnswersFrom, delivered_from, tally_from, tally_of}
use Rattle.rvf_report.specs.declared.status.Status.{Status}
use Rattle.rvf_checks.specs.Answers.{AreAnswers, name_of}
use Rattle.rvf_checks.specs.Checked.{answered, begun, head_in, is_noted, last_in, plan_of, whole}
use Rattle.rvf_checks.specs.Counting.{counted, counted_at, counts_of, no_counts, status_of}
use Rattle.rvf_checks.specs.Deliveries.{deliveries_in}
use Rattle.rvf_checks.specs.declared.counts.Counts.{Counts}
use Rattle.rvf_checks.specs.declared.wording.Wording.{Wording}
use Rattle.rvf_checks.proofs.Counting.{joined, joined_more, joined_none, none_joined, status_is_theirs}

-- the item at a place is the first of those from it on
pub from_there : {A : Type 0} (xs : List A) (i : ℕ) (x : A) → slice_get xs i ≡ Some x → drop i xs ≡ x ∷ drop (i + 1) xs
from_there [] zero x there = cc
from_there [] (suc i) x there = cc
from_there (y ∷ ys) zero x there = let same : y ≡ x = cc in ap (λ z. z ∷ ys) same
from_there (y ∷ ys) (suc i) x there =
    let e : suc i + 1 ≡ suc (i + 1) = omega arith in
    rw e (from_there ys i x there)

module _ (more : ℕ → Cnf → List Step → Type 0) (case : Case) (words : Wording) (folder : List ℕ) (budget : ℕ) where
  answers_none : (qs : List Question) → AreAnswers more case budget qs []
  answers_none [] = tt
  answers_none (q ∷ qs) = tt

  answered_none : (qs : List Question) → answered words folder budget qs [] ≡ []
  answered_none [] = refl
  answered_none (q ∷ qs) = refl

  are_listed : (i : ℕ) (js : List Judged) → AreAnswersFrom (plan_of more case words folder budget) i js
      → AreAnswers more case budget (drop i case.questions) js
  are_listed i [] are = answers_none (drop i case.questions)
  are_listed i (j ∷ js) are =
      subst (λ (qs : List Question). AreAnswers more case budget qs (j ∷ js))
      (sym (from_there case.questions i are.0.question are.0.there))
      (are.0.answers, are_listed (i + 1) js are.1)

  delivered_listed : (i : ℕ) (js : List Judged) → AreAnswersFrom (plan_of more case words folder budget) i js
      → delivered_from (plan_of more case words folder budget) i js
      ≡ answered words folder budget (drop i case.questions) js
  delivered_listed i [] are = sym (answered_none (drop i case.questions))
  delivered_listed i (j ∷ js) are =
      let q = are.0.question in
      ap (λ o. deliveries_in words folder (name_of o) budget j
      ++ delivered_from (plan_of more case words folder budget) (i + 1) js) are.0.there
      ∙ ap (λ l. deliveries_in words folder (question_name q) budget j ++ l) (delivered_listed (i + 1) js are.1)
      ∙ ap (λ (qs : List Question). answered words folder budget qs (j ∷ js))
      (sym (from_there case.questions i q are.0.there))

  tally_joined : (i : ℕ) (c : Counts) (js : List Judged)
      → AreAnswersFrom (plan_of more case words folder budget) i js
      → tally_from (plan_of more case words folder budget) i c js
      ≡ joined c (counts_of (drop i case.questions) js)
  tally_joined i c [] are = sym (joined_none (drop i case.questions) c)
  tally_joined i c (j ∷ js) are =
      let q = are.0.question in
      ap (λ o. tally_from (plan_of more case words folder budget) (i + 1) (counted_at o c j) js) are.0.there
      ∙ tally_joined (i + 1) (counted q c j) js are.1
      ∙ joined_more q (drop (i + 1) case.questions) c j js
      ∙ ap (λ (qs : List Question). joined c (counts_of qs (j ∷ js)))
      (sym (from_there case.questions i q are.0.there))

  pub tally_is : (js : List Judged) → AreAnswersFrom (plan_of more case words folder budget) 0 js
      → tally_of (plan_of more case words folder budget) js ≡ counts_of case.questions js
  tally_is js are = tally_joined 0 no_counts js are ∙ none_joined (counts_of case.questions js)

  pub are_answers : (js : List Judged) → AreAnswersFrom (plan_of more case words folder budget) 0 js
      → AreAnswers more case budget case.questions js
  are_answers js are = are_listed 0 js are

  pub begun_is : (js : List Judged) → AreAnswersFrom (plan_of more case words folder budget) 0 js
      → jobs.begun (plan_of more case words folder budget) js
      ≡ begun words folder budget (is_noted case) case.config.skips case.questions js
  begun_is js are =
      ap (λ l. head_in words (is_noted case) case.config.skips ++ l) (delivered_listed 0 js are)

  pub whole_is : (js : List Judged) → AreAnswersFrom (plan_of more case words folder budget) 0 js
      → jobs.whole (plan_of more case words folder budget) js
      ≡ whole words folder budget (is_noted case) case.config.skips case.questions js
  whole_is js are =
      ap (λ l. l ++ last_in words (tally_of (plan_of more case words folder budget) js) (length case.config.skips))
      (begun_is js are)
      ∙ ap (λ c. begun words folder budget (is_noted case) case.config.skips case.questions js
      ++ last_in words c (length case.config.skips)) (tally_is js are)

  pub status_is : (js : List Judged) (status : Status)
      → AreAnswersFrom (plan_of more case words folder budget) 0 js
      → status ≡ (plan_of more case words folder budget).status (tally_of (plan_of more case words folder budget) js)
      → status ≡ status_of case.questions js
  status_is js status are is =
      is ∙ ap (plan_of more case words folder budget).status (tally_is js are) ∙ status_is_theirs case.questions js
