-- From the results of jobs that are all done to their answers.
use Rattle.std.proofs.Common.{◌≡◌, ℕ, zero, suc, ◌+◌, ◌<◌, List, [], ◌∷◌, length, map, Some, Result, Ok, IfOk}
use Rattle.std.proofs.Common.{slice_get, get_or, refl, sym, ap, ◌∙◌, subst, arith}
use Rattle.rvf_jobs.specs.Answers.{AreAnswers}

module _ {A : Type 0} (E : Type 0) where
  length-done : (answers : List A) → length (map {B = Result A E} (λ answer. Ok answer) answers) ≡ length answers
  length-done [] = refl
  length-done (a ∷ answers) = ap suc (length-done answers)

  done_at : (answers : List A) (i : ℕ) (answer : A) (d : Result A E) → slice_get answers i ≡ Some answer
      → (i < length answers) × (get_or (map (λ a. Ok a) answers) i d ≡ Ok answer)
  done_at [] zero answer d found = cc
  done_at [] (suc i) answer d found = cc
  done_at (a ∷ answers) zero answer d found = let same : a ≡ answer = cc in (omega arith, ap (λ x. Ok x) same)
  done_at (a ∷ answers) (suc i) answer d found = let h = done_at answers i answer d found in (omega (arith, h.0), h.1)

  pub AreAnswers-of_results : (P : ℕ → A → Type 0) (first count : ℕ) (results : List (Result A E)) (answers : List A)
      → length results ≡ count → ((i : ℕ) (d : Result A E) → i < count
      → IfOk (get_or results i d) (λ answer. P (first + i) answer))
      → map (λ answer. Ok answer) answers ≡ results → AreAnswers P first count answers
  AreAnswers-of_results P first count results answers whole each all = record {
    whole = sym (length-done answers) ∙ ap length all ∙ whole;
    each = λ i answer found.
        let h = done_at answers i answer (Ok answer) found in
        let below : i < count = omega (arith, h.0, sym (length-done answers) ∙ ap length all ∙ whole) in
        let is : get_or results i (Ok answer) ≡ Ok answer = sym (ap (λ rs. get_or rs i (Ok answer)) all) ∙ h.1 in
        subst (λ r. IfOk r (λ a. P (first + i) a)) is (each i (Ok answer) below);
  }
