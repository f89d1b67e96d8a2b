-- What is answered and delivered check by check in runs of every length, said of the list of checks.
use Rattle.std.proofs.Common.{◌≡◌, ℕ, ◌+◌, Bool, true, false, cond, ◌||◌, nat_lt, if◌then◌else◌, List, [], ◌∷◌}
use Rattle.std.proofs.Common.{◌++◌, length, drop, count_by, refl, sym, ap, ◌∙◌, subst, arith}
use Rattle.std.proofs.Common.{add-zero, zero-add, add_assoc}
use Rattle.std.proofs.lemmas.Bool.{lt-ltb}
use Rattle.std.proofs.lemmas.List.Sums.{sum_by-cons}
use Rattle.std.specs.List.{list_any}
use Rattle.cnf_form.specs.Cnf.{Cnf}
use Rattle.lrat_check.specs.declared.step.Step.{Step}
use Rattle.ck_cfg.specs.declared.check.Check.{Check}
use Rattle.ck_cfg.specs.Checks.{checks_of}
use Rattle.rvf_judge.specs.declared.induction.Induction.{Induction}
use Rattle.rvf_judge.specs.declared.induction.Induction.TheVariants as induction
use Rattle.rvf_case.specs.declared.case.Case.{Case}
use Rattle.rvf_report.specs.Reports as jobs
use Rattle.rvf_report.specs.Reports.{AreAnswersFrom, Plan, delivered_from, tally_from, tally_of}
use Rattle.rvf_report.specs.declared.status.Status.{Status}
use Rattle.rvf_report.specs.declared.status.Status.TheVariants as s
use Rattle.rvf_checks.specs.Checked.{head, is_noted}
use Rattle.rvf_checks.specs.LengthCounting.{is_failing, is_open, is_proved, is_skipped, is_spent, length_status_in}
use Rattle.rvf_checks.specs.LengthCounting.{length_status_of, lengths_of, no_lengths, with_length}
use Rattle.rvf_checks.specs.Lengths.{AreLengths, check_name, length_deliveries, lengths_answered, lengths_begun}
use Rattle.rvf_checks.specs.Lengths.{lengths_last, lengths_plan, lengths_whole}
use Rattle.rvf_checks.specs.declared.length_counts.LengthCounts.{LengthCounts}
use Rattle.rvf_checks.proofs.Listing.{from_there}

-- ---- counts

abbrev made : ℕ → ℕ → ℕ → ℕ → ℕ → LengthCounts
made p f o t k = record { proved = p; failing = f; opened = o; spent = t; skipped = k }

-- the counts of two parts
abbrev joined : LengthCounts → LengthCounts → LengthCounts
joined a b =
    made (a.proved + b.proved) (a.failing + b.failing) (a.opened + b.opened) (a.spent + b.spent) (a.skipped + b.skipped)

same_counts : (p f o t k p' f' o' t' k' : ℕ) → p ≡ p' → f ≡ f' → o ≡ o' → t ≡ t' → k ≡ k'
    → made p f o t k ≡ made p' f' o' t' k'
same_counts p f o t k p' f' o' t' k' a b c d e =
    ap (λ x. made x f o t k) a ∙ ap (λ x. made p' x o t k) b ∙ ap (λ x. made p' f' x t k) c
    ∙ ap (λ x. made p' f' o' x k) d ∙ ap (λ x. made p' f' o' t' x) e

joined_none : (c : LengthCounts) → joined c (lengths_of []) ≡ c
joined_none c =
    same_counts _ _ _ _ _ _ _ _ _ _ (add-zero c.proved) (add-zero c.failing) (add-zero c.opened) (add-zero c.spent)
    (add-zero c.skipped)

none_joined : (c : LengthCounts) → joined no_lengths c ≡ c
none_joined c =
    same_counts _ _ _ _ _ _ _ _ _ _ (zero-add c.proved) (zero-add c.failing) (zero-add c.opened) (zero-add c.spent)
    (zero-add c.skipped)

-- one more, where the answer is of the kind
abbrev one : (Induction → Bool) → Induction → ℕ
one p m = cond (p m) 1 0

still : (n : ℕ) → n ≡ n + 0
still n = sym (add-zero n)

with_length_is : (c : LengthCounts) (m : Induction) → with_length c m
    ≡ made (c.proved + one is_proved m) (c.failing + one is_failing m) (c.opened + one is_open m)
    (c.spent + one is_spent m) (c.skipped + one is_skipped m)
with_length_is c induction.Skipped =
    same_counts _ _ _ _ _ _ _ _ _ _ (still c.proved) (still c.failing) (still c.opened) (still c.spent) refl
with_length_is c (induction.Fails dump) =
    same_counts _ _ _ _ _ _ _ _ _ _ (still c.proved) refl (still c.opened) (still c.spent) (still c.skipped)
with_length_is c (induction.Open dump) =
    same_counts _ _ _ _ _ _ _ _ _ _ (still c.proved) (still c.failing) refl (still c.spent) (still c.skipped)
with_length_is c (induction.Proved base step) =
    same_counts _ _ _ _ _ _ _ _ _ _ refl (still c.failing) (still c.opened) (still c.spent) (still c.skipped)
with_length_is c (induction.SpentBase texts) =
    same_counts _ _ _ _ _ _ _ _ _ _ (still c.proved) (still c.failing) (still c.opened) refl (still c.skipped)
with_length_is c (induction.SpentStep texts) =
    same_counts _ _ _ _ _ _ _ _ _ _ (still c.proved) (still c.failing) (still c.opened) refl (still c.skipped)

count-cons : (p : Induction → Bool) (m : Induction) (ms : List Induction)
    → count_by p (m ∷ ms) ≡ one p m + count_by p ms
count-cons p m ms = sum_by-cons (λ x. cond (p x) 1 0) m ms

part_more : (p : Induction → Bool) (a : ℕ) (m : Induction) (ms : List Induction)
    → a + one p m + count_by p ms ≡ a + count_by p (m ∷ ms)
part_more p a m ms = add_assoc a (one p m) (count_by p ms) ∙ ap (λ n. a + n) (sym (count-cons p m ms))

joined_more : (c : LengthCounts) (m : Induction) (ms : List Induction)
    → joined (with_length c m) (lengths_of ms) ≡ joined c (lengths_of (m ∷ ms))
joined_more c m ms =
    ap (λ x. joined x (lengths_of ms)) (with_length_is c m)
    ∙ same_counts _ _ _ _ _ _ _ _ _ _ (part_more is_proved c.proved m ms) (part_more is_failing c.failing m ms)
    (part_more is_open c.opened m ms) (part_more is_spent c.spent m ms) (part_more is_skipped c.skipped m ms)

-- ---- the status

any_step : (b : Bool) (n : ℕ) (r : Bool) → nat_lt 0 n ≡ r → nat_lt 0 (cond b 1 0 + n) ≡ (b || r)
any_step true n r h = lt-ltb 0 (1 + n) (omega arith)
any_step false n r h = ap (λ k. nat_lt 0 k) (zero-add n) ∙ h

any_counted : (p : Induction → Bool) (ms : List Induction) → nat_lt 0 (count_by p ms) ≡ list_any p ms
any_counted p [] = refl
any_counted p (m ∷ ms) =
    ap (λ n. nat_lt 0 n) (count-cons p m ms)
    ∙ any_step (p m) (count_by p ms) (list_any p ms) (any_counted p ms)

either : (a b c d : Bool) → ((a || b) || (c || d)) ≡ ((a || c) || (b || d))
either true b c d = refl
either false true true d = refl
either false true false d = refl
either false false c d = refl

any_either : (p q : Induction → Bool) (ms : List Induction)
    → (list_any p ms || list_any q ms) ≡ list_any (λ x. p x || q x) ms
any_either p q [] = refl
any_either p q (m ∷ ms) =
    either (p m) (list_any p ms) (q m) (list_any q ms) ∙ ap (λ b. (p m || q m) || b) (any_either p q ms)

status_is_theirs : (ms : List Induction) → length_status_in (lengths_of ms) ≡ length_status_of ms
status_is_theirs ms =
    let unproved : (nat_lt 0 (count_by is_open ms) || nat_lt 0 (count_by is_spent ms))
    ≡ list_any (λ x. is_open x || is_spent x) ms =
    ap (λ b. b || nat_lt 0 (count_by is_spent ms)) (any_counted is_open ms)
    ∙ ap (λ b. list_any is_open ms || b) (any_counted is_spent ms) ∙ any_either is_open is_spent ms in
    ap (λ b. if b then s.Failing
    else if nat_lt 0 (count_by is_open ms) || nat_lt 0 (count_by is_spent ms) then s.Spent else s.Passed)
    (any_counted is_failing ms)
    ∙ ap (λ b. if list_any is_failing ms then s.Failing else if b then s.Spent else s.Passed) unproved

-- ---- lists

module _ (more : ℕ → Cnf → List Step → Type 0) (case : Case) (folder : List ℕ) (steps budget : ℕ) where
  abbrev all : List Check
  all = checks_of case.config

  abbrev plan : Plan Induction LengthCounts
  plan = lengths_plan more case all folder steps budget

  lengths_none : (xs : List Check) → AreLengths more case steps budget xs []
  lengths_none [] = tt
  lengths_none (x ∷ xs) = tt

  answered_none : (xs : List Check) → lengths_answered folder steps budget xs [] ≡ []
  answered_none [] = refl
  answered_none (x ∷ xs) = refl

  are_listed : (i : ℕ) (ms : List Induction) → AreAnswersFrom plan i ms
      → AreLengths more case steps budget (drop i all) ms
  are_listed i [] are = lengths_none (drop i all)
  are_listed i (m ∷ ms) are =
      subst (λ (xs : List Check). AreLengths more case steps budget xs (m ∷ ms))
      (sym (from_there all i are.0.check are.0.there)) (are.0.answers, are_listed (i + 1) ms are.1)

  delivered_listed : (i : ℕ) (ms : List Induction) → AreAnswersFrom plan i ms
      → delivered_from plan i ms ≡ lengths_answered folder steps budget (drop i all) ms
  delivered_listed i [] are = sym (answered_none (drop i all))
  delivered_listed i (m ∷ ms) are =
      let x = are.0.check in
      ap (λ o. length_deliveries folder (check_name o) steps budget m ++ delivered_from plan (i + 1) ms) are.0.there
      ∙ ap (λ l. length_deliveries folder x.name steps budget m ++ l) (delivered_listed (i + 1) ms are.1)
      ∙ ap (λ (xs : List Check). lengths_answered folder steps budget xs (m ∷ ms)) (sym (from_there all i x are.0.there))

  tally_joined : (i : ℕ) (c : LengthCounts) (ms : List Induction) → tally_from plan i c ms ≡ joined c (lengths_of ms)
  tally_joined i c [] = sym (joined_none c)
  tally_joined i c (m ∷ ms) = tally_joined (i + 1) (with_length c m) ms ∙ joined_more c m ms

  pub tally_is : (ms : List Induction) → tally_of plan ms ≡ lengths_of ms
  tally_is ms = tally_joined 0 no_lengths ms ∙ none_joined (lengths_of ms)

  pub are_lengths : (ms : List Induction) → AreAnswersFrom plan 0 ms → AreLengths more case steps budget all ms
  are_lengths ms are = are_listed 0 ms are

  pub lengths_begun_is : (ms : List Induction) → AreAnswersFrom plan 0 ms
      → jobs.begun plan ms ≡ lengths_begun case folder steps budget ms
  lengths_begun_is ms are = ap (λ l. head (is_noted case) case.config.skips ++ l) (delivered_listed 0 ms are)

  pub lengths_whole_is : (ms : List Induction) → AreAnswersFrom plan 0 ms
      → jobs.whole plan ms ≡ lengths_whole case folder steps budget ms
  lengths_whole_is ms are =
      ap (λ l. l ++ lengths_last (tally_of plan ms) (length case.config.skips)) (lengths_begun_is ms are)
      ∙ ap (λ c. lengths_begun case folder steps budget ms ++ lengths_last c (length case.config.skips)) (tally_is ms)

  pub length_status_is : (ms : List Induction) (status : Status)
      → status ≡ plan.status (tally_of plan ms) → status ≡ length_status_of ms
  length_status_is ms status is = is ∙ ap plan.status (tally_is ms) ∙ status_is_theirs ms
