-- Questions of a case, answered by what is loaded for them.
use Rattle.std.proofs.Common.{◌≡◌, ℕ, zero, suc, ◌≤◌, List, [], ◌∷◌, length, Some, None, Result, Ok, Err, IfOk}
use Rattle.std.proofs.Common.{slice_get, sym, ◌∙◌, subst, arith}
use Rattle.std.specs.List.{AllByRecursion}
use Rattle.fv_text.specs.declared.memory.Memory.{Memory}
use Rattle.vl_mean.specs.Parts.{Part}
use Rattle.cnf_form.specs.Cnf.{Cnf}
use Rattle.lrat_check.specs.declared.step.Step.{Step}
use Rattle.rvfi_port.specs.declared.port.Wants.{Wants}
use Rattle.ck_ask.specs.Asked.{IsQuestion}
use Rattle.ck_ask.specs.declared.question.Question.{Question}
use Rattle.ck_design.specs.Loaded.{IsLoaded}
use Rattle.ck_design.specs.Traces.{HaveOwnNames}
use Rattle.rvf_judge.specs.Judged.{IsJudged}
use Rattle.rvf_judge.specs.declared.judged.Judged.{Judged}
use Rattle.rvf_case.specs.Loading.{Loaded}
use Rattle.rvf_case.specs.Cases.{IsFit, IsReady, loaded_for}
use Rattle.rvf_case.specs.declared.case.Case.{Case}
use Rattle.rvf_checks.specs.Answers.{IsAnswerAt}

at_place : {A : Type 0} (P : A → Type 0) (xs : List A) (i : ℕ) (x : A) → AllByRecursion P xs → slice_get xs i ≡ Some x
    → P x
at_place P [] zero x all there = cc
at_place P [] (suc i) x all there = cc
at_place P (y ∷ ys) zero x all there = let same : y ≡ x = cc in subst P same all.0
at_place P (y ∷ ys) (suc i) x all there = at_place P ys i x all.1 there

module _ (case : Case) (i : ℕ) (q : Question) (ready : IsReady case) (there : slice_get case.questions i ≡ Some q) where
  ready_at : (l : Loaded) × (loaded_for case q ≡ Some l) × IsFit case.config.nret q l
  ready_at =
      at_place (λ y. (l : Loaded) × (loaded_for case y ≡ Some l) × IsFit case.config.nret y l) case.questions i q ready
      there

  -- what is loaded for the question is fit
  pub fit_at : (l : Loaded) → Some l ≡ loaded_for case q → IsFit case.config.nret q l
  fit_at l found =
      let both : Some l ≡ Some ready_at.0 = found ∙ ready_at.1 in
      let same : ready_at.0 ≡ l = cc in subst (λ z. IsFit case.config.nret q z) same ready_at.2

  -- and there is some
  pub not_missing : None ≡ loaded_for case q → ⊥
  not_missing missing = let both : None ≡ Some ready_at.0 = missing ∙ ready_at.1 in cc

pub question_of_port : (channels : ℕ) (q : Question) (l : Loaded) → IsFit channels q l
    → IsQuestion (length l.port.channels) q
question_of_port channels q l fit = subst (λ n. IsQuestion n q) (sym fit.many) fit.lawful

pub few_channels : (channels : ℕ) (q : Question) (l : Loaded) → IsFit channels q l → length l.port.channels ≤ 2
few_channels channels q l fit = omega (arith, fit.many, fit.few)

-- a judgement by what is loaded is an answer
pub answer_at : (more : ℕ → Cnf → List Step → Type 0) (case : Case) (budget i : ℕ) (q : Question) (l : Loaded)
    (r : Result Judged Memory) → slice_get case.questions i ≡ Some q → Some l ≡ loaded_for case q
    → ((ps : List Part) (channels : ℕ) (wants : Wants) → IsLoaded ps l.net l.names channels wants l.port
    → HaveOwnNames ps → IfOk r (IsJudged more ps channels wants q l.opts budget))
    → IfOk r (IsAnswerAt more case budget i)
answer_at more case budget i q l (Ok j) there found judges = record {
  question = q;
  there = there;
  answers = λ other loaded.
      let both : Some l ≡ Some other = found ∙ loaded in
      let same : l ≡ other = cc in
      subst
      (λ z. (ps : List Part) (wants : Wants) → IsLoaded ps z.net z.names case.config.nret wants z.port
      → HaveOwnNames ps → IsJudged more ps case.config.nret wants q z.opts budget j) same
      (λ ps wants is own. judges ps case.config.nret wants is own);
}
answer_at more case budget i q l (Err fault) there found judges = tt
