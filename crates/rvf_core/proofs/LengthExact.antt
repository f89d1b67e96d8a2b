-- Where files are told, and no cause is there, checks are answered in runs of every length, and one fails where a run of
-- the base violates it.
use Rattle.std.proofs.Common.{◌≡◌, ℕ, ◌≤◌, true, false, ◌||◌, List, [], ◌∷◌, length, Some, refl, sym, ◌∙◌, subst, arith}
use Rattle.std.proofs.lemmas.List.Elements.{All-contains, All-from_recursion}
use Rattle.std.specs.List.{AllByRecursion, Contains, list_any}
use Rattle.fv_base.specs.Outside.{Names}
use Rattle.bm_decide.specs.Searches.{TakesFewer}
use Rattle.ck_induct.specs.Steps.{FailsAt}
use Rattle.ck_cfg.specs.declared.check.Check.{Check}
use Rattle.ck_cfg.specs.declared.config.Config.{Config}
use Rattle.ck_cfg.specs.Checks.{checks_of}
use Rattle.ck_ask.specs.declared.question.Question.{Question}
use Rattle.ck_design.specs.Retirements.{IsViolating}
use Rattle.ck_gen.specs.Monitors.{is_of_one_cycle}
use Rattle.ck_induct.specs.OneCycle.{holds_in_map, in_cycle}
use Rattle.ck_induct.proofs.OneCycle.{properties_are_of_maps}
use Rattle.rvf_case.specs.Loads.{design_of}
use Rattle.rvf_case.specs.Cases.{Request, Seen, questions_in}
use Rattle.rvf_judge.specs.Inducted.{IsInductedBy, IsInductedOn}
use Rattle.rvf_judge.specs.declared.induction.Induction.{Induction}
use Rattle.rvf_judge.specs.declared.induction.Induction.TheVariants as induction
use Rattle.rvf_checks.specs.LengthCounting.{is_failing, is_open, is_spent, length_status_of}
use Rattle.rvf_words.specs.declared.line.Options.{Options}
use Rattle.rvf_report.specs.declared.delivery.Delivery.{Delivery}
use Rattle.rvf_report.specs.declared.status.Status.{Status}
use Rattle.rvf_report.specs.declared.status.Status.TheVariants as s
use Rattle.rvf_core.specs.Checks.{HasRead}
use Rattle.rvf_core.specs.Lengths.{AreInducted, Inducts, InductsWhere, LengthsAre, ViolatesWithin, length_request}
use Rattle.rvf_core.specs.Lengths as lengths
use Rattle.rvf_core.specs.Run.{AreAccepted, comes_in_budget, comes_judged, rose}
use Rattle.rvf_core.specs.Verdicts.{opts_in, text_for, wants_in}
use Rattle.rvf_core.proofs.Apart.{true_false}
use Rattle.rvf_core.proofs.Causes.{moved, uncaused}
use Rattle.rvf_core.proofs.Statuses.{IsVerdict, by_verdict, chosen, clear_of}

is_length_verdict : (ms : List Induction) → IsVerdict (length_status_of ms)
is_length_verdict ms = chosen (list_any is_failing ms) (list_any (λ x. is_open x || is_spent x) ms)

none_left : {A : Type 0} (x : A) (xs : List A) → ◌≡◌ {A = ℕ} 0 (length (x ∷ xs)) → ⊥
none_left x xs e = cc

more_left : {A B : Type 0} (y : B) (ys : List B) (x : A) (xs : List A) → length (y ∷ ys) ≡ length (x ∷ xs)
    → length ys ≡ length xs
more_left y ys x xs e = omega arith

at_most : (j : ℕ) → j ≤ j
at_most j = omega arith

module _ (c : Config) (fs : List (List ℕ)) (qs : List Question) (steps budget : ℕ) where
  -- no run of the base violates the check, if it is of one cycle
  abbrev IsKept : Check → Type 0
  IsKept x = is_of_one_cycle x.kind ≡ true → ViolatesWithin c fs qs steps x → ⊥

  module _ (x : Check) (one : is_of_one_cycle x.kind ≡ true) where
    -- what is violated in a reading is violated in the one that was answered
    failing_at : (m : Induction) (g : Inducts c fs qs steps budget x m) (v : ViolatesWithin c fs qs steps x)
        → FailsAt (design_of g.reading.tree.modules)
        (holds_in_map c.nret (wants_in (text_for c fs qs x.kind) g.reading) x (opts_in (text_for c fs qs x.kind) g.reading))
        v.cycle v.run
    failing_at m g v =
        let text = text_for c fs qs x.kind in
        let wants = wants_in text g.reading in
        let opts = opts_in text g.reading in
        let found : IsViolating (design_of g.reading.tree.modules) c.nret wants (in_cycle x v.cycle) opts v.run =
        subst (λ y. IsViolating (design_of y.tree.modules) c.nret (wants_in text y) (in_cycle x v.cycle) (opts_in text y)
        v.run) (g.one v.reading v.is.reads) v.violating in
        record {
          is_run = found.is_run;
          assumed = found.assumed;
          fails = sym (properties_are_of_maps v.run c.nret wants (in_cycle x v.cycle) opts one (at_most v.cycle))
              ∙ found.fails;
        }

    kept_on : (m : Induction) → is_failing m ≡ false → (is_open m || is_spent m) ≡ false
        → Inducts c fs qs steps budget x m → ViolatesWithin c fs qs steps x → ⊥
    kept_on m f u g v =
        by m f u
        (subst (λ b. IsInductedBy b TakesFewer (design_of g.reading.tree.modules) c.nret
        (wants_in (text_for c fs qs x.kind) g.reading) x (opts_in (text_for c fs qs x.kind) g.reading) steps budget m)
        one g.inducted) (failing_at m g v)
      where
        by : (n : Induction) → is_failing n ≡ false → (is_open n || is_spent n) ≡ false
            → IsInductedOn (design_of g.reading.tree.modules)
            (holds_in_map c.nret (wants_in (text_for c fs qs x.kind) g.reading) x
            (opts_in (text_for c fs qs x.kind) g.reading)) steps TakesFewer budget n
            → FailsAt (design_of g.reading.tree.modules)
            (holds_in_map c.nret (wants_in (text_for c fs qs x.kind) g.reading) x
            (opts_in (text_for c fs qs x.kind) g.reading)) v.cycle v.run
            → ⊥
        by induction.Skipped f u on at = on
        by (induction.Fails dump) f u on at = true_false f
        by (induction.Open dump) f u on at = true_false u
        by (induction.Proved base step) f u on at = on.base_none v.cycle v.run v.some v.few at
        by (induction.SpentBase texts) f u on at = true_false u
        by (induction.SpentStep texts) f u on at = true_false u

  kept : (x : Check) (m : Induction) → is_failing m ≡ false → (is_open m || is_spent m) ≡ false
      → InductsWhere (is_of_one_cycle x.kind) c fs qs steps budget x m → IsKept x
  kept x m f u g one v = kept_on x one m f u (subst (λ b. InductsWhere b c fs qs steps budget x m) one g) v

  -- where all are proved or skipped none is violated
  all_kept : (xs : List Check) (ms : List Induction) → AreInducted c fs qs steps budget xs ms → length ms ≡ length xs
      → length_status_of ms ≡ s.Passed → AllByRecursion IsKept xs
  all_kept [] ms are all passed = tt
  all_kept (x ∷ xs) [] are all passed = absurd (none_left x xs all)
  all_kept (x ∷ xs) (m ∷ ms) are all passed =
      let clear =
      clear_of (is_failing m) (list_any is_failing ms) (is_open m || is_spent m)
      (list_any (λ y. is_open y || is_spent y) ms) passed in
      (kept x m clear.0 clear.1 are.0, all_kept xs ms are.1 (more_left m ms x xs all) clear.2)

module _ (o : Options) (steps : ℕ) (names : Names) (misses misses_now faults faults_now : ℕ)
    (no_fault : rose faults faults_now ≡ false) (c : Config) (fs : List (List ℕ))
    (read : HasRead (length_request o steps) (Some names) c fs)
    (unrefused : AreAccepted c fs (questions_in (length_request o steps) c)) where
  abbrev q : Request
  q = length_request o steps

  abbrev seen : Seen
  seen = record {
    held = Some names;
    misses = misses;
    misses_now = misses_now;
    faults = faults;
    faults_now = faults_now;
  }

  pub lengths_said : (status : Status) (report : List Delivery)
      → LengthsAre q seen o.outdir steps o.budget status report → comes_judged status ≡ true
  lengths_said status report (lengths.answered w) =
      subst (λ x. comes_judged x ≡ true) (sym w.status_is)
      (by_verdict comes_judged (length_status_of w.answers) (is_length_verdict w.answers) (λ e. refl) (λ e. refl) refl)
  lengths_said status report (lengths.refused w) =
      absurd (uncaused q names misses misses_now faults faults_now c fs no_fault read unrefused w.refusal w.cause)

  pub length_fail_said : (status : Status) (report : List Delivery) (x : Check)
      → LengthsAre q seen o.outdir steps o.budget status report → Contains (checks_of c) x
      → is_of_one_cycle x.kind ≡ true → ViolatesWithin c fs (questions_in q c) steps x
      → comes_in_budget s.Failing status ≡ true
  length_fail_said status report x (lengths.answered w) there one v =
      let P : Config → List (List ℕ) → Type 0 =
      λ d gs. AreInducted d gs (questions_in q d) steps o.budget (checks_of d) w.answers
      × (length w.answers ≡ length (checks_of d)) in
      let are : P c fs = moved q names P c w.config fs w.files read w.read (w.inducted, w.all) in
      let Kept : Check → Type 0 = IsKept c fs (questions_in q c) steps o.budget in
      subst (λ z. comes_in_budget s.Failing z ≡ true) (sym w.status_is)
      (by_verdict (comes_in_budget s.Failing) (length_status_of w.answers) (is_length_verdict w.answers)
      (λ e. absurd (All-contains Kept (checks_of c) x
      (All-from_recursion Kept (checks_of c)
      (all_kept c fs (questions_in q c) steps o.budget (checks_of c) w.answers are.0 are.1 e)) there one v))
      (λ e. refl) refl)
  length_fail_said status report x (lengths.refused w) there one v =
      absurd (uncaused q names misses misses_now faults faults_now c fs no_fault read unrefused w.refusal w.cause)
