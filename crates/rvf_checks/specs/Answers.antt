-- Between functions: What the questions of a case come to, by what is loaded of their texts. Rules of this project.
use Rattle.std.specs.Prelude.{◌≡◌, ℕ, List, [], ◌∷◌, Option, Some, None, slice_get}
use Rattle.vl_mean.specs.Parts.{Part}
use Rattle.cnf_form.specs.Cnf.{Cnf}
use Rattle.lrat_check.specs.declared.step.Step.{Step}
use Rattle.rvfi_port.specs.declared.port.Wants.{Wants}
use Rattle.ck_ask.specs.Questions.{question_name}
use Rattle.ck_ask.specs.declared.question.Question.{Question}
use Rattle.ck_design.specs.Loaded.{IsLoaded}
use Rattle.ck_design.specs.Traces.{HaveOwnNames}
use Rattle.rvf_judge.specs.Judged.{IsJudged}
use Rattle.rvf_judge.specs.declared.judged.Judged.{Judged}
use Rattle.rvf_case.specs.Loading.{Loaded}
use Rattle.rvf_case.specs.Cases.{loaded_for}
use Rattle.rvf_case.specs.declared.case.Case.{Case}

module _ (more : ℕ → Cnf → List Step → Type 0) (case : Case) (budget : ℕ) where
  -- what a question comes to, of each design that what is loaded of its text is that of
  abbrev pub IsAnswer : Question → Judged → Type 0
  IsAnswer q j =
      (l : Loaded) → loaded_for case q ≡ Some l → (ps : List Part) (wants : Wants)
      → IsLoaded ps l.net l.names case.config.nret wants l.port → HaveOwnNames ps
      → IsJudged more ps case.config.nret wants q l.opts budget j

  -- of the first questions, as many as there are answers
  abbrev pub AreAnswers : List Question → List Judged → Type 0
  AreAnswers qs [] = Unit {0}
  AreAnswers [] (j ∷ js) = ⊥
  AreAnswers (q ∷ qs) (j ∷ js) = IsAnswer q j × AreAnswers qs js

  -- the judgement is an answer of the question at a place
  pub record IsAnswerAt (place : ℕ) (judgement : Judged) : Type 0 where
    pub question : Question
    pub there : slice_get case.questions place ≡ Some question
    pub answers : IsAnswer question judgement

-- the name of a question, where there is one
abbrev pub name_of : Option Question → List ℕ
name_of None = []
name_of (Some q) = question_name q

abbrev pub name_at : List Question → ℕ → List ℕ
name_at qs place = name_of (slice_get qs place)
