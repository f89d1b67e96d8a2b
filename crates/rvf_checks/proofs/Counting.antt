-- Counts of answers.
use Rattle.std.proofs.Common.{◌≡◌, ℕ, ◌+◌, ◌≤◌, Bool, true, false, cond, ◌||◌, nat_lt, if◌then◌else◌, List, [], ◌∷◌}
use Rattle.std.proofs.Common.{count_by, refl, ap, ◌∙◌, add-zero, zero-add, arith}
use Rattle.std.proofs.lemmas.Bool.{lt-ltb}
use Rattle.std.proofs.lemmas.List.Sums.{sum_by-cons}
use Rattle.std.specs.List.{list_any}
use Rattle.rvf_judge.specs.declared.judged.Judged.{Judged}
use Rattle.rvf_judge.specs.declared.judged.Judged.TheVariants as judged
use Rattle.rvf_report.specs.declared.status.Status.TheVariants as s
use Rattle.ck_ask.specs.declared.question.Question.{Question}
use Rattle.rvf_checks.specs.Counting.{any_fails, counted, counts_of, failures_of, fails, is_found, is_never, is_spent}
use Rattle.rvf_checks.specs.Counting.{no_counts, places_of, status_in, status_of, with_answer, with_failure}
use Rattle.rvf_checks.specs.declared.counts.Counts.{Counts}

count-cons : (p : Judged → Bool) (j : Judged) (js : List Judged)
    → count_by p (j ∷ js) ≡ cond (p j) 1 0 + count_by p js
count-cons p j js = sum_by-cons (λ x. cond (p x) 1 0) j js

pub places_with_answer : (c : Counts) (j : Judged) → places_of (with_answer c j) ≡ places_of c + 1
places_with_answer c (judged.Never texts) = omega arith
places_with_answer c (judged.Found dump) = omega arith
places_with_answer c (judged.Spent texts) = omega arith

pub failing_with_answer : (c : Counts) (j : Judged) → (with_answer c j).failing ≡ c.failing
failing_with_answer c (judged.Never texts) = refl
failing_with_answer c (judged.Found dump) = refl
failing_with_answer c (judged.Spent texts) = refl

-- ---- one behind the other

abbrev made : ℕ → ℕ → ℕ → ℕ → Counts
made n f s g = record { never = n; found = f; spent = s; failing = g }

-- the counts of two parts
abbrev pub joined : Counts → Counts → Counts
joined a b = made (a.never + b.never) (a.found + b.found) (a.spent + b.spent) (a.failing + b.failing)

same_counts : (n f s g n' f' s' g' : ℕ) → n ≡ n' → f ≡ f' → s ≡ s' → g ≡ g' → made n f s g ≡ made n' f' s' g'
same_counts n f s g n' f' s' g' a b c d =
    ap (λ x. made x f s g) a ∙ ap (λ x. made n' x s g) b ∙ ap (λ x. made n' f' x g) c ∙ ap (λ x. made n' f' s' x) d

no_failures : (qs : List Question) → failures_of qs [] ≡ 0
no_failures [] = refl
no_failures (q ∷ qs) = refl

nothing_more : (a b : ℕ) → b ≡ 0 → a + b ≡ a
nothing_more a b e = omega (arith, e)

pub joined_none : (qs : List Question) (c : Counts) → joined c (counts_of qs []) ≡ c
joined_none qs c =
    same_counts _ _ _ _ _ _ _ _ (add-zero c.never) (add-zero c.found) (add-zero c.spent)
    (nothing_more c.failing (failures_of qs []) (no_failures qs))

one_here : (a b n : ℕ) → n ≡ 1 + b → a + 1 + b ≡ a + n
one_here a b n e = omega (arith, e)

none_here : (a b n : ℕ) → n ≡ 0 + b → a + b ≡ a + n
none_here a b n e = omega (arith, e)

-- one answer more, and then the rest
answer_more : (c : Counts) (j : Judged) (js : List Judged) (f : ℕ)
    → made ((with_answer c j).never + count_by is_never js) ((with_answer c j).found + count_by is_found js)
    ((with_answer c j).spent + count_by is_spent js) f
    ≡ made (c.never + count_by is_never (j ∷ js)) (c.found + count_by is_found (j ∷ js))
    (c.spent + count_by is_spent (j ∷ js)) f
answer_more c (judged.Never texts) js f =
    same_counts _ _ _ _ _ _ _ _ (one_here c.never _ _ (count-cons is_never (judged.Never texts) js))
    (none_here c.found _ _ (count-cons is_found (judged.Never texts) js))
    (none_here c.spent _ _ (count-cons is_spent (judged.Never texts) js)) refl
answer_more c (judged.Found dump) js f =
    same_counts _ _ _ _ _ _ _ _ (none_here c.never _ _ (count-cons is_never (judged.Found dump) js))
    (one_here c.found _ _ (count-cons is_found (judged.Found dump) js))
    (none_here c.spent _ _ (count-cons is_spent (judged.Found dump) js)) refl
answer_more c (judged.Spent texts) js f =
    same_counts _ _ _ _ _ _ _ _ (none_here c.never _ _ (count-cons is_never (judged.Spent texts) js))
    (none_here c.found _ _ (count-cons is_found (judged.Spent texts) js))
    (one_here c.spent _ _ (count-cons is_spent (judged.Spent texts) js)) refl

one_failure : (a g : ℕ) → a + 1 + g ≡ a + (1 + g)
one_failure a g = omega arith

no_failure : (a g : ℕ) → a + g ≡ a + (0 + g)
no_failure a g = omega arith

-- one failure more, where the question fails
failure_more : (c : Counts) (b : Bool) (n f s g : ℕ)
    → joined (with_failure c b) (made n f s g)
    ≡ made (c.never + n) (c.found + f) (c.spent + s) (c.failing + (cond b 1 0 + g))
failure_more c true n f s g = same_counts _ _ _ _ _ _ _ _ refl refl refl (one_failure c.failing g)
failure_more c false n f s g = same_counts _ _ _ _ _ _ _ _ refl refl refl (no_failure c.failing g)

pub joined_more : (q : Question) (qs : List Question) (c : Counts) (j : Judged) (js : List Judged)
    → joined (counted q c j) (counts_of qs js) ≡ joined c (counts_of (q ∷ qs) (j ∷ js))
joined_more q qs c j js =
    failure_more (with_answer c j) (fails q j) (count_by is_never js) (count_by is_found js) (count_by is_spent js)
    (failures_of qs js)
    ∙ ap (λ x. made ((with_answer c j).never + count_by is_never js) ((with_answer c j).found + count_by is_found js)
    ((with_answer c j).spent + count_by is_spent js) (x + (cond (fails q j) 1 0 + failures_of qs js)))
    (failing_with_answer c j)
    ∙ answer_more c j js (c.failing + (cond (fails q j) 1 0 + failures_of qs js))

pub none_joined : (c : Counts) → joined no_counts c ≡ c
none_joined c =
    same_counts _ _ _ _ _ _ _ _ (zero-add c.never) (zero-add c.found) (zero-add c.spent) (zero-add c.failing)

-- ---- the status

-- some answer passes a test where its count isn't 0
any_step : (b : Bool) (n : ℕ) (r : Bool) → nat_lt 0 n ≡ r → nat_lt 0 (cond b 1 0 + n) ≡ (b || r)
any_step true n r h = lt-ltb 0 (1 + n) (omega arith)
any_step false n r h = ap (λ k. nat_lt 0 k) (zero-add n) ∙ h

any_counted : (p : Judged → Bool) (js : List Judged) → nat_lt 0 (count_by p js) ≡ list_any p js
any_counted p [] = refl
any_counted p (j ∷ js) =
    ap (λ n. nat_lt 0 n) (count-cons p j js)
    ∙ any_step (p j) (count_by p js) (list_any p js) (any_counted p js)

failures_counted : (qs : List Question) (js : List Judged) → nat_lt 0 (failures_of qs js) ≡ any_fails qs js
failures_counted [] js = refl
failures_counted (q ∷ qs) [] = refl
failures_counted (q ∷ qs) (j ∷ js) =
    any_step (fails q j) (failures_of qs js) (any_fails qs js) (failures_counted qs js)

pub status_is_theirs : (qs : List Question) (js : List Judged) → status_in (counts_of qs js) ≡ status_of qs js
status_is_theirs qs js =
    ap (λ b. if b then s.Failing else if nat_lt 0 (count_by is_spent js) then s.Spent else s.Passed)
    (failures_counted qs js)
    ∙ ap (λ b. if any_fails qs js then s.Failing else if b then s.Spent else s.Passed) (any_counted is_spent js)
