-- Answers one more.
use Rattle.std.proofs.Common.{◌≡◌, ℕ, suc, ◌+◌, List, [], ◌∷◌, ◌++◌, length, Some, slice_get, refl, sym, ap, ◌∙◌, subst}
use Rattle.std.proofs.Common.{append_assoc, arith}
use Rattle.std.proofs.lemmas.List.{append-nil, length_push}
use Rattle.rvf_jobs.specs.Answers.{AreAnswers}
use Rattle.rvf_report.specs.Reports.{AreAnswersFrom, Plan, begun, delivered_from, tally_from, tally_of}

next_place : (i n : ℕ) → i + 1 + n ≡ i + suc n
next_place i n = omega arith

own_place : (i : ℕ) → i + 0 ≡ i
own_place i = omega arith

module _ {A T : Type 0} (plan : Plan A T) where
  -- by their places in a list
  pub from_indices : (i : ℕ) (answers : List A)
      → ((k : ℕ) (a : A) → slice_get answers k ≡ Some a → plan.is_answer (i + k) a) → AreAnswersFrom plan i answers
  from_indices i [] h = tt
  from_indices i (a ∷ rest) h = (
    subst (λ n. plan.is_answer n a) (own_place i) (h 0 a refl),
    from_indices (i + 1) rest (λ k b e. subst (λ n. plan.is_answer n b) (sym (next_place i k)) (h (suc k) b e)),
  )

  -- of a batch of jobs
  pub batch_answers : (is_answer : ℕ → A → Type 0) (first count : ℕ) (answers : List A)
      → ((place : ℕ) (a : A) → is_answer place a → plan.is_answer place a) → AreAnswers is_answer first count answers
      → AreAnswersFrom plan first answers
  batch_answers is_answer first count answers planned are =
      from_indices first answers (λ k a e. planned (first + k) a (are.each k a e))

  -- the one behind the first of them
  pub answer_at : (i : ℕ) (xs ys : List A) (a : A) → AreAnswersFrom plan i (xs ++ a ∷ ys)
      → plan.is_answer (i + length xs) a
  answer_at i [] ys a are = subst (λ n. plan.is_answer n a) (sym (own_place i)) are.0
  answer_at i (x ∷ xs) ys a are =
      subst (λ n. plan.is_answer n a) (next_place i (length xs)) (answer_at (i + 1) xs ys a are.1)

  are_more : (i : ℕ) (answers : List A) (a : A) → AreAnswersFrom plan i answers
      → plan.is_answer (i + length answers) a → AreAnswersFrom plan i (answers ++ a ∷ [])
  are_more i [] a are is = (subst (λ n. plan.is_answer n a) (own_place i) is, tt)
  are_more i (x ∷ xs) a are is = (
    are.0,
    are_more (i + 1) xs a are.1 (subst (λ n. plan.is_answer n a) (sym (next_place i (length xs))) is),
  )

  delivered_more : (i : ℕ) (answers : List A) (a : A)
      → delivered_from plan i (answers ++ a ∷ [])
      ≡ delivered_from plan i answers ++ plan.deliveries (i + length answers) a
  delivered_more i [] a = append-nil (plan.deliveries i a) ∙ ap (λ n. plan.deliveries n a) (sym (own_place i))
  delivered_more i (x ∷ xs) a =
      ap (λ l. plan.deliveries i x ++ l) (delivered_more (i + 1) xs a
      ∙ ap (λ n. delivered_from plan (i + 1) xs ++ plan.deliveries n a) (next_place i (length xs)))
      ∙ sym (append_assoc (plan.deliveries i x) (delivered_from plan (i + 1) xs)
      (plan.deliveries (i + suc (length xs)) a))

  tally_more : (i : ℕ) (t : T) (answers : List A) (a : A)
      → tally_from plan i t (answers ++ a ∷ []) ≡ plan.counted (i + length answers) (tally_from plan i t answers) a
  tally_more i t [] a = ap (λ n. plan.counted n t a) (sym (own_place i))
  tally_more i t (x ∷ xs) a =
      tally_more (i + 1) (plan.counted i t x) xs a
      ∙ ap (λ n. plan.counted n (tally_from plan (i + 1) (plan.counted i t x) xs) a) (next_place i (length xs))

  -- ---- of the first jobs

  zero_and : (n : ℕ) → 0 + n ≡ n
  zero_and n = omega arith

  pub first_more : (place : ℕ) (answers : List A) (a : A) → length answers ≡ place → AreAnswersFrom plan 0 answers
      → plan.is_answer place a → AreAnswersFrom plan 0 (answers ++ a ∷ [])
  first_more place answers a many are is =
      are_more 0 answers a are
      (subst (λ n. plan.is_answer n a) (sym (zero_and (length answers) ∙ many)) is)

  pub begun_more : (place : ℕ) (answers : List A) (a : A) → length answers ≡ place
      → begun plan answers ++ plan.deliveries place a ≡ begun plan (answers ++ a ∷ [])
  begun_more place answers a many =
      append_assoc plan.head (delivered_from plan 0 answers) (plan.deliveries place a)
      ∙ ap (λ l. plan.head ++ l) (sym (delivered_more 0 answers a
      ∙ ap (λ n. delivered_from plan 0 answers ++ plan.deliveries n a) (zero_and (length answers) ∙ many)))

  pub begun_none : plan.head ≡ begun plan []
  begun_none = sym (append-nil plan.head)

  pub tally_one_more : (place : ℕ) (answers : List A) (a : A) → length answers ≡ place
      → tally_of plan (answers ++ a ∷ []) ≡ plan.counted place (tally_of plan answers) a
  tally_one_more place answers a many =
      tally_more 0 plan.none answers a
      ∙ ap (λ n. plan.counted n (tally_of plan answers) a) (zero_and (length answers) ∙ many)

  pub one_longer : (place : ℕ) (answers : List A) (a : A) → length answers ≡ place
      → length (answers ++ a ∷ []) ≡ place + 1
  one_longer place answers a many = omega (arith, many, length_push answers a)
