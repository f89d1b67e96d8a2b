-- An answer has the only cause that is there.
use Rattle.std.proofs.Common.{◌≡◌, ℕ, Bool, true, false, List, [], ◌∷◌, ◌++◌, length, map, Option, Some, None}
use Rattle.std.proofs.Common.{refl, sym, ◌∙◌, subst, inl, inr, ◌⊎◌, arith}
use Rattle.std.proofs.lemmas.List.Elements.{All-contains, All-from_recursion, recursion_from_All}
use Rattle.std.proofs.lemmas.List.{append_cancel_left}
use Rattle.std.specs.List.{All, AllByRecursion, Contains}
use Rattle.fv_base.specs.Outside.{Names}
use Rattle.fv_base.specs.declared.event.Event.{Event}
use Rattle.fv_base.specs.declared.event.Event.TheVariants.{Failed}
use Rattle.vl_size.specs.Size.{Values}
use Rattle.ck_cfg.specs.declared.check.Check.{Check}
use Rattle.ck_cfg.specs.declared.config.Config.{Config}
use Rattle.ck_cfg.specs.Checks.{checks_of}
use Rattle.rv_table.specs.declared.row.RowId.{RowId}
use Rattle.ck_ask.specs.Questions.{question_kind}
use Rattle.ck_ask.specs.declared.question.Question.{Question}
use Rattle.ck_ask.specs.declared.question.Question.TheVariants as question
use Rattle.ck_design.specs.Findings.{IsFound}
use Rattle.ck_design.proofs.Found.{found_violates}
use Rattle.ck_gen.specs.Monitors.{is_of_one_cycle}
use Rattle.rvf_case.specs.Loads.{design_of}
use Rattle.rvf_judge.specs.declared.judged.CertificateTexts.{CertificateTexts}
use Rattle.rvf_judge.specs.declared.judged.Judged.{Judged}
use Rattle.rvf_judge.specs.declared.judged.Judged.TheVariants as judged
use Rattle.rvf_words.specs.Line.{line_of}
use Rattle.rvf_words.specs.declared.line.Line.{Line as Words}
use Rattle.rvf_words.specs.declared.line.Line.TheVariants as words
use Rattle.rvf_words.specs.declared.line.Options.{Options}
use Rattle.rvf_case.specs.Cases.{Request, Seen, questions_in}
use Rattle.rvf_case.specs.Texts.{questions_of}
use Rattle.rvf_case.specs.Askings as asking
use Rattle.rvf_checks.specs.Counting.{fails, is_found, is_spent, is_unmet, status_of}
use Rattle.rvf_checks.specs.declared.wording.Wording.{Wording}
use Rattle.rvf_report.specs.declared.delivery.Delivery.{Delivery}
use Rattle.rvf_report.specs.declared.status.Status.{Status}
use Rattle.rvf_report.specs.declared.status.Status.TheVariants as s
use Rattle.rvf_core.specs.Checks.{Checks, HasRead}
use Rattle.rvf_core.specs.Checks as checks
use Rattle.rvf_core.specs.Bench as bench
use Rattle.rvf_core.specs.Exports.{Exports, check_request}
use Rattle.rvf_core.specs.Exports as exports
use Rattle.rvf_core.specs.Lengths.{LengthsAre, ViolatesWithin, length_request}
use Rattle.rvf_core.specs.Run.{AsksGraph, AsksLengths, Answered, Answers, AreAccepted, Asks, Ends, HasCounts, IsAccepted, IsExact}
use Rattle.rvf_core.specs.Run.{Run, Says}
use Rattle.rvf_core.specs.Run.{comes, of_bench, of_files}
use Rattle.rvf_core.specs.Run.{comes_in_budget}
use Rattle.rvf_core.specs.Run.{comes_judged, rose, says_reads, seen_in}
use Rattle.rvf_core.specs.Steps.{HaveStatus, Leaves}
use Rattle.rvf_core.specs.Tasks.{Task}
use Rattle.rvf_core.specs.Verdicts.{AreJudged, Gives, IsGiven, IsUnmet, Judges, QuestionFails, Violates}
use Rattle.rvf_core.specs.Verdicts.{check_questions, opts_in, text_for, text_of, wants_in}
use Rattle.rvf_core.proofs.Apart.{true_false}
use Rattle.rvf_core.proofs.Asking.{asked_says}
use Rattle.rvf_core.proofs.Causes.{moved, uncaused}
use Rattle.rvf_core.proofs.Failures.{failure_comes}
use Rattle.rvf_core.proofs.GraphMade.{graph_known, made_exact}
use Rattle.rvf_core.proofs.Graphs.{encoded_exact}
use Rattle.rvf_core.proofs.LengthExact.{length_fail_said, lengths_said}
use Rattle.rvf_core.proofs.Others.{same_said}
use Rattle.rvf_core.proofs.Members.{from_contains, in_map, to_contains}
use Rattle.rvf_core.proofs.Statuses.{IsClear, all_clear, by_verdict, comes_Memory, comes_WriteFault, comes_itself}
use Rattle.rvf_core.proofs.Statuses.{is_verdict, one_fails, passed_failing}

-- ---- answers by what is said of them

-- what a status means under the words
under : (r : Run) (asked : Option Words) (status : Status) → line_of r.words ≡ asked → Answers status r
    → Ends asked r status
under r asked status is a = subst (λ line. Ends line r status) is a

-- what holds of each status that has its cause, and of those that may take its place, holds of the answer
module _ (test : Status → Bool) (on_write : test s.WriteFault ≡ true) (on_memory : test s.Memory ≡ true)
    (asked : Option Words) (r : Run) where
  by_reads : (status : Status) → Ends asked r status
      → ((report : List Delivery) (says : Says asked (seen_in r) status report)
      → r.now.heard ≡ r.before.heard ++ says_reads asked (seen_in r) status report says → test status ≡ true)
      → test status ≡ true
  by_reads s.Passed e f = f e.report e.says e.heard
  by_reads s.Failing e f = f e.report e.says e.heard
  by_reads s.Spent e f = f e.report e.says e.heard
  by_reads s.Usage e f = f e.report e.says e.heard
  by_reads s.Config e f = f e.report e.says e.heard
  by_reads s.Source e f = f e.report e.says e.heard
  by_reads s.Absent e f = f e.report e.says e.heard
  by_reads s.ReadFault e f = f e.report e.says e.heard
  by_reads s.WriteFault e f = on_write
  by_reads s.Heavy e f = f e.report e.says e.heard
  by_reads s.Refused e f = f e.report e.says e.heard
  by_reads s.Memory e f = on_memory

  by_cause : (status : Status) → Ends asked r status
      → ((report : List Delivery) → Says asked (seen_in r) status report → test status ≡ true) → test status ≡ true
  by_cause status e f = by_reads status e (λ report says heard. f report says)

usage_comes : (r : Run) (status : Status) → Answers status r → line_of r.words ≡ None
    → comes s.Usage status ≡ true
usage_comes r status a none =
    by_cause (comes s.Usage) refl refl None r status (under r None status none a)
    (λ report says. comes_itself s.Usage status says.status_is)

-- a read that failed is the last one of what a cause speaks of
unread_comes : (r : Run) (status : Status) → Answers status r → (events : List Event) (name : List ℕ)
    → r.now.heard ≡ r.before.heard ++ events → Contains events (Failed name) → comes s.ReadFault status ≡ true
unread_comes r status a events name heard there =
    by_reads (comes s.ReadFault) refl refl (line_of r.words) r status a
    (λ report says is. failure_comes (line_of r.words) (seen_in r) status report says name
    (subst (λ l. Contains l (Failed name))
    (append_cancel_left r.before.heard events (says_reads (line_of r.words) (seen_in r) status report says)
    (sym heard ∙ is)) there))

-- ---- questions

none_left : {A : Type 0} (x : A) (xs : List A) → ◌≡◌ {A = ℕ} 0 (length (x ∷ xs)) → ⊥
none_left x xs e = cc

more_left : {A B : Type 0} (y : B) (ys : List B) (x : A) (xs : List A) → length (y ∷ ys) ≡ length (x ∷ xs)
    → length ys ≡ length xs
more_left y ys x xs e = omega arith

-- the question doesn't fail
abbrev IsClean : Config → List (List ℕ) → List Question → Question → Type 0
IsClean c fs qs q = QuestionFails c fs qs q → ⊥

-- a run that gives what a question seeks is found in the reading of which the question was answered
found_judged : (c : Config) (fs : List (List ℕ)) (qs : List Question) (budget cubes : ℕ) (q : Question) (j : Judged)
    (run : List Values) (g : Judges c fs qs budget cubes q j) → Gives c fs qs q run
    → IsFound (design_of g.reading.tree.modules) c.nret (wants_in (text_for c fs qs (question_kind q)) g.reading) q
    (opts_in (text_for c fs qs (question_kind q)) g.reading) run
found_judged c fs qs budget cubes q j run g v =
    subst (λ y. IsFound (design_of y.tree.modules) c.nret (wants_in (text_for c fs qs (question_kind q)) y) q
    (opts_in (text_for c fs qs (question_kind q)) y) run) (g.one v.reading v.is.reads) v.found

-- where no run gives what is sought, none is found
never_given : (c : Config) (fs : List (List ℕ)) (qs : List Question) (budget cubes : ℕ) (q : Question)
    (texts : CertificateTexts) → Judges c fs qs budget cubes q (judged.Never texts) → IsGiven c fs qs q → ⊥
never_given c fs qs budget cubes q texts g given =
    g.judged.never given.0 (found_judged c fs qs budget cubes q (judged.Never texts) given.0 g given.1)

-- and where one is found, a run gives it
found_given : (c : Config) (fs : List (List ℕ)) (qs : List Question) (budget cubes : ℕ) (q : Question) (dump : List ℕ)
    → Judges c fs qs budget cubes q (judged.Found dump) → IsGiven c fs qs q
found_given c fs qs budget cubes q dump g =
    (g.judged.run, record { reading = g.reading; is = g.is; found = g.judged.found })

-- what a target's answer says, by whether it has a row
clear_target : (row : Option RowId) (Given : Type 0) (j : Judged) → is_unmet row j ≡ false → is_spent j ≡ false
    → ((dump : List ℕ) → j ≡ judged.Found dump → Given) → IsUnmet row Given → ⊥
clear_target None Given (judged.Never texts) e p found unmet = true_false e
clear_target None Given (judged.Found dump) e p found unmet = unmet (found dump refl)
clear_target None Given (judged.Spent texts) e p found unmet = true_false p
clear_target (Some row) Given j e p found unmet = unmet

unmet_target : (row : Option RowId) (Given : Type 0) (j : Judged) → is_unmet row j ≡ true
    → ((texts : CertificateTexts) → j ≡ judged.Never texts → Given → ⊥) → IsUnmet row Given
unmet_target None Given (judged.Never texts) e never = never texts refl
unmet_target None Given (judged.Found dump) e never = absurd (true_false (sym e))
unmet_target None Given (judged.Spent texts) e never = absurd (true_false (sym e))
unmet_target (Some row) Given j e never = absurd (true_false (sym e))

module _ (c : Config) (fs : List (List ℕ)) (qs : List Question) (budget cubes : ℕ) where
  -- a check, or a row of Zba and Zbs, of which no run is found
  clear_run : (q : Question) (j : Judged) → is_found j ≡ false → is_spent j ≡ false → Judges c fs qs budget cubes q j
      → IsGiven c fs qs q → ⊥
  clear_run q (judged.Never texts) e p g given = never_given c fs qs budget cubes q texts g given
  clear_run q (judged.Found dump) e p g given = true_false e
  clear_run q (judged.Spent texts) e p g given = true_false p

  failing_run : (q : Question) (j : Judged) → is_found j ≡ true → Judges c fs qs budget cubes q j → IsGiven c fs qs q
  failing_run q (judged.Never texts) e g = absurd (true_false (sym e))
  failing_run q (judged.Found dump) e g = found_given c fs qs budget cubes q dump g
  failing_run q (judged.Spent texts) e g = absurd (true_false (sym e))

  answer_clean : (q : Question) (j : Judged) → IsClear q j → Judges c fs qs budget cubes q j → IsClean c fs qs q
  answer_clean (question.Check x) j p g = λ failing. clear_run (question.Check x) j p.clear p.answered g failing
  answer_clean (question.Target t) j p g = λ failing.
      clear_target t.row (IsGiven c fs qs (question.Target t)) j p.clear p.answered
      (λ dump is. found_given c fs qs budget cubes (question.Target t) dump
      (subst (λ k. Judges c fs qs budget cubes (question.Target t) k) is g)) failing
  answer_clean (question.Zb z) j p g = λ failing. clear_run (question.Zb z) j p.clear p.answered g failing

  answer_fails : (q : Question) (j : Judged) → fails q j ≡ true → Judges c fs qs budget cubes q j
      → QuestionFails c fs qs q
  answer_fails (question.Check x) j e g = failing_run (question.Check x) j e g
  answer_fails (question.Target t) j e g =
      unmet_target t.row (IsGiven c fs qs (question.Target t)) j e
      (λ texts is. never_given c fs qs budget cubes (question.Target t) texts
      (subst (λ k. Judges c fs qs budget cubes (question.Target t) k) is g))
  answer_fails (question.Zb z) j e g = failing_run (question.Zb z) j e g

  -- where all are clear no question fails
  passed_clean : (xs : List Question) (js : List Judged) → AreJudged c fs qs budget cubes xs js → length js ≡ length xs
      → status_of xs js ≡ s.Passed → AllByRecursion (IsClean c fs qs) xs
  passed_clean [] js are all passed = tt
  passed_clean (x ∷ xs) [] are all passed = absurd (none_left x xs all)
  passed_clean (x ∷ xs) (j ∷ js) are all passed =
      let both = all_clear x xs j js passed in (
        answer_clean x j both.0 are.0,
        passed_clean xs js are.1 (more_left j js x xs all) both.1,
      )

  -- one fails, or another one does
  unclean_or : (q : Question) (j : Judged) (Other : Type 0) → (fails q j ≡ true) ⊎ Other
      → Judges c fs qs budget cubes q j → IsClean c fs qs q → (Other → ⊥) → ⊥
  unclean_or q j Other (inl e) g clean none = clean (answer_fails q j e g)
  unclean_or q j Other (inr p) g clean none = none p

  -- where one fails a question fails
  failing_unclean : (xs : List Question) (js : List Judged) → AreJudged c fs qs budget cubes xs js
      → status_of xs js ≡ s.Failing → AllByRecursion (IsClean c fs qs) xs → ⊥
  failing_unclean [] [] are failing clean = passed_failing failing
  failing_unclean (x ∷ xs) [] are failing clean = passed_failing failing
  failing_unclean [] (j ∷ js) are failing clean = are
  failing_unclean (x ∷ xs) (j ∷ js) are failing clean =
      unclean_or x j (status_of xs js ≡ s.Failing) (one_fails x xs j js failing) are.0 clean.0
      (λ p. failing_unclean xs js are.1 p clean.1)

module _ (q : Request) (names : Names) (misses misses_now faults faults_now : ℕ)
    (no_fault : rose faults faults_now ≡ false) (c : Config) (fs : List (List ℕ))
    (read : HasRead q (Some names) c fs) (unrefused : AreAccepted c fs (questions_in q c)) (told : Wording) where
  abbrev seen : Seen
  seen = record {
    held = Some names;
    misses = misses;
    misses_now = misses_now;
    faults = faults;
    faults_now = faults_now;
  }

  pass_said : (folder : List ℕ) (budget cubes : ℕ) (status : Status) (report : List Delivery)
      → Checks q seen told folder budget cubes status report → All (IsClean c fs (questions_in q c)) (questions_in q c)
      → comes_in_budget s.Passed status ≡ true
  pass_said folder budget cubes status report (checks.judged w) clean =
      let P : Config → List (List ℕ) → Type 0 =
      λ d gs. AreJudged d gs (questions_in q d) budget cubes (questions_in q d) w.answers
      × (status ≡ status_of (questions_in q d) w.answers) in
      let are : P c fs = moved q names P c w.config fs w.files read w.read (w.judged, w.status_is) in
      subst (λ x. comes_in_budget s.Passed x ≡ true) (sym are.1)
      (by_verdict (comes_in_budget s.Passed) (status_of (questions_in q c) w.answers)
      (is_verdict (questions_in q c) w.answers) (λ e. refl)
      (λ e. absurd (failing_unclean c fs (questions_in q c) budget cubes (questions_in q c) w.answers are.0 e
      (recursion_from_All (IsClean c fs (questions_in q c)) (questions_in q c) clean))) refl)
  pass_said folder budget cubes status report (checks.refused w) clean =
      absurd (uncaused q names misses misses_now faults faults_now c fs no_fault read unrefused w.refusal w.cause)

  judged_said : (folder : List ℕ) (budget cubes : ℕ) (status : Status) (report : List Delivery)
      → Checks q seen told folder budget cubes status report → comes_judged status ≡ true
  judged_said folder budget cubes status report (checks.judged w) =
      subst (λ x. comes_judged x ≡ true) (sym w.status_is)
      (by_verdict comes_judged (status_of (questions_in q w.config) w.answers)
      (is_verdict (questions_in q w.config) w.answers) (λ e. refl) (λ e. refl) refl)
  judged_said folder budget cubes status report (checks.refused w) =
      absurd (uncaused q names misses misses_now faults faults_now c fs no_fault read unrefused w.refusal w.cause)

  fail_said : (folder : List ℕ) (budget cubes : ℕ) (status : Status) (report : List Delivery) (x : Question)
      → Checks q seen told folder budget cubes status report → Contains (questions_in q c) x
      → QuestionFails c fs (questions_in q c) x → comes_in_budget s.Failing status ≡ true
  fail_said folder budget cubes status report x (checks.judged w) there failing =
      let P : Config → List (List ℕ) → Type 0 =
      λ d gs. AreJudged d gs (questions_in q d) budget cubes (questions_in q d) w.answers
      × (length w.answers ≡ length (questions_in q d)) × (status ≡ status_of (questions_in q d) w.answers) in
      let are : P c fs = moved q names P c w.config fs w.files read w.read (w.judged, w.all, w.status_is) in
      subst (λ z. comes_in_budget s.Failing z ≡ true) (sym are.2)
      (by_verdict (comes_in_budget s.Failing) (status_of (questions_in q c) w.answers)
      (is_verdict (questions_in q c) w.answers)
      (λ e. absurd (All-contains (IsClean c fs (questions_in q c)) (questions_in q c) x
      (All-from_recursion (IsClean c fs (questions_in q c)) (questions_in q c)
      (passed_clean c fs (questions_in q c) budget cubes (questions_in q c) w.answers are.0 are.1 e)) there failing))
      (λ e. refl) refl)
  fail_said folder budget cubes status report x (checks.refused w) there failing =
      absurd (uncaused q names misses misses_now faults faults_now c fs no_fault read unrefused w.refusal w.cause)

-- the same run, where its files are told
abbrev seen_told : Names → Run → Seen
seen_told names r = record {
  held = Some names;
  misses = r.before.misses;
  misses_now = r.now.misses;
  faults = r.before.faults;
  faults_now = r.now.faults;
}

told_answered : (r : Run) (t : Task) (status : Status) (report : List Delivery) (asks : Asks r t)
    → Says (line_of r.words) (seen_in r) status report → Answered t (seen_told asks.names r) status report
told_answered r t status report asks said =
    subst (λ held. Answered t (record {
      held = held;
      misses = r.before.misses;
      misses_now = r.now.misses;
      faults = r.before.faults;
      faults_now = r.now.faults;
    }) status report) asks.told (asked_says t (seen_in r) (line_of r.words) status report asks.asked said)

-- what holds of each answer of questions that are accepted: `test` of its status
module _ (test : Status → Bool) (on_write : test s.WriteFault ≡ true) (on_memory : test s.Memory ≡ true) (r : Run)
    (t : Task) (c : Config) (fs : List (List ℕ)) where
  -- of some files that are told, of which no call failed
  abbrev Test : Type 0
  Test =
      (names : Names) (misses misses_now faults faults_now : ℕ) → rose faults faults_now ≡ false
      → HasRead t.request (Some names) c fs → AreAccepted c fs (questions_in t.request c) → (status : Status)
      (report : List Delivery)
      → Answered t (record {
        held = Some names;
        misses = misses;
        misses_now = misses_now;
        faults = faults;
        faults_now = faults_now;
      }) status report → test status ≡ true

  accepted_comes : (status : Status) → Answers status r → IsAccepted r t c fs → Test → test status ≡ true
  accepted_comes status a (of_files asks read unrefused) f =
      by_cause test on_write on_memory (line_of r.words) r status a
      (λ report says. f asks.names r.before.misses r.now.misses r.before.faults r.now.faults asks.no_fault
      (subst (λ held. HasRead t.request held c fs) asks.told read) unrefused status report
      (told_answered r t status report asks says))
  accepted_comes status a (of_bench size is same read unrefused) f =
      by_cause test on_write on_memory (Some (words.Bench size)) r status (under r (Some (words.Bench size)) status is a)
      (λ report says. f (bench.held_of size) says.misses says.misses_now 0 0 refl
      read unrefused status report
      (subst (λ u. Answered u (bench.seen_of size says.misses says.misses_now) status report) (sym same) says.checks))

pass_comes : (r : Run) (status : Status) → Answers status r → (t : Task) (c : Config) (fs : List (List ℕ))
    → IsAccepted r t c fs → All (IsClean c fs (questions_in t.request c)) (questions_in t.request c)
    → comes_in_budget s.Passed status ≡ true
pass_comes r status a t c fs h clean =
    accepted_comes (comes_in_budget s.Passed) refl refl r t c fs status a h
    (λ names misses misses_now faults faults_now no_fault read unrefused found report said.
    pass_said t.request names misses misses_now faults faults_now no_fault c fs read unrefused t.wording t.folder
    t.budget t.cubes found report said clean)

judged_comes : (r : Run) (status : Status) → Answers status r → (t : Task) (c : Config) (fs : List (List ℕ))
    → IsAccepted r t c fs → comes_judged status ≡ true
judged_comes r status a t c fs h =
    accepted_comes comes_judged refl refl r t c fs status a h
    (λ names misses misses_now faults faults_now no_fault read unrefused found report said.
    judged_said t.request names misses misses_now faults faults_now no_fault c fs read unrefused t.wording t.folder
    t.budget t.cubes found report said)

fail_comes : (r : Run) (status : Status) → Answers status r → (t : Task) (c : Config) (fs : List (List ℕ))
    (x : Question) → IsAccepted r t c fs → Contains (questions_in t.request c) x
    → QuestionFails c fs (questions_in t.request c) x → comes_in_budget s.Failing status ≡ true
fail_comes r status a t c fs x h there failing =
    accepted_comes (comes_in_budget s.Failing) refl refl r t c fs status a h
    (λ names misses misses_now faults faults_now no_fault read unrefused found report said.
    fail_said t.request names misses misses_now faults faults_now no_fault c fs read unrefused t.wording t.folder
    t.budget t.cubes found report x said there failing)

-- ---- the graph of a check

-- where nothing is refused the graph is made
graph_comes : (cfg check file core basedir : List ℕ) (r : Run) (status : Status) → Answers status r
    → AsksGraph r cfg check file core basedir → (c : Config) (fs : List (List ℕ))
    → HasRead (check_request cfg check core basedir) r.before.held c fs
    → AreAccepted c fs (questions_in (check_request cfg check core basedir) c) → comes s.Passed status ≡ true
graph_comes cfg check file core basedir r status a asks c fs read unrefused =
    by_cause (comes s.Passed) refl refl (Some (words.Toaig cfg check file core basedir)) r status
    (under r (Some (words.Toaig cfg check file core basedir)) status asks.asked a)
    (λ report says. of report (told_exports report says))
  where
    q : Request
    q = check_request cfg check core basedir

    told_exports : (report : List Delivery) → Exports cfg check file core basedir (seen_in r) status report
        → Exports cfg check file core basedir (seen_told asks.names r) status report
    told_exports report x = subst (λ held. Exports cfg check file core basedir (record {
      held = held;
      misses = r.before.misses;
      misses_now = r.now.misses;
      faults = r.before.faults;
      faults_now = r.now.faults;
    }) status report) asks.told x

    of : (report : List Delivery) → Exports cfg check file core basedir (seen_told asks.names r) status report
        → comes s.Passed status ≡ true
    of report (exports.exported x) = comes_itself s.Passed status x.status_is
    of report (exports.refused x) =
        absurd (uncaused q asks.names r.before.misses r.now.misses r.before.faults r.now.faults c fs asks.no_fault
        (subst (λ held. HasRead q held c fs) asks.told read) unrefused x.refusal x.cause)

-- ---- runs of every length

module _ (o : Options) (steps : ℕ) (r : Run) (status : Status) (a : Answers status r) (asks : AsksLengths r o steps)
    (c : Config) (fs : List (List ℕ)) (read : HasRead (length_request o steps) r.before.held c fs)
    (unrefused : AreAccepted c fs (questions_in (length_request o steps) c)) where
  told_lengths : (report : List Delivery)
      → LengthsAre (length_request o steps) (seen_in r) o.outdir steps o.budget status report
      → LengthsAre (length_request o steps) (seen_told asks.names r) o.outdir steps o.budget status report
  told_lengths report x = subst (λ held. LengthsAre (length_request o steps) (record {
    held = held;
    misses = r.before.misses;
    misses_now = r.now.misses;
    faults = r.before.faults;
    faults_now = r.now.faults;
  }) o.outdir steps o.budget status report) asks.told x

  told_read : HasRead (length_request o steps) (Some asks.names) c fs
  told_read = subst (λ held. HasRead (length_request o steps) held c fs) asks.told read

  -- where nothing is refused all checks are answered
  lengths_come : comes_judged status ≡ true
  lengths_come =
      by_cause comes_judged refl refl (Some (words.Induct o steps)) r status
      (under r (Some (words.Induct o steps)) status asks.asked a)
      (λ report says. lengths_said o steps asks.names r.before.misses r.now.misses r.before.faults r.now.faults
      asks.no_fault c fs told_read unrefused status report (told_lengths report says))

  length_fail_comes : (x : Check) → Contains (checks_of c) x → is_of_one_cycle x.kind ≡ true
      → ViolatesWithin c fs (questions_in (length_request o steps) c) steps x
      → comes_in_budget s.Failing status ≡ true
  length_fail_comes x there one v =
      by_cause (comes_in_budget s.Failing) refl refl (Some (words.Induct o steps)) r status
      (under r (Some (words.Induct o steps)) status asks.asked a)
      (λ report says. length_fail_said o steps asks.names r.before.misses r.now.misses r.before.faults r.now.faults
      asks.no_fault c fs told_read unrefused status report x (told_lengths report says) there one v)

-- ---- checks

-- a check fails exactly where a run violates it
failing_check : (c : Config) (fs : List (List ℕ)) (x : Check)
    → QuestionFails c fs (check_questions c) (question.Check x) → (run : List Values) × Violates c fs x run
failing_check c fs x given =
    let run = given.0 in
    let g = given.1 in (
      run,
      record {
        reading = g.reading;
        is = g.is;
        violating = (found_violates (design_of g.reading.tree.modules) c.nret
            (wants_in (text_of c fs x.kind) g.reading) x (opts_in (text_of c fs x.kind) g.reading) run).0 g.found;
      },
    )

check_failing : (c : Config) (fs : List (List ℕ)) (x : Check) (run : List Values) → Violates c fs x run
    → QuestionFails c fs (check_questions c) (question.Check x)
check_failing c fs x run v = (
  run,
  record {
    reading = v.reading;
    is = v.is;
    found = (found_violates (design_of v.reading.tree.modules) c.nret
        (wants_in (text_of c fs x.kind) v.reading) x (opts_in (text_of c fs x.kind) v.reading) run).1 v.violating;
  },
)

clean_checks : (c : Config) (fs : List (List ℕ)) (xs : List Check)
    → AllByRecursion (λ x. (run : List Values) → Violates c fs x run → ⊥) xs
    → AllByRecursion (IsClean c fs (check_questions c)) (map (λ x. question.Check x) xs)
clean_checks c fs [] clean = tt
clean_checks c fs (x ∷ xs) clean =
    ((λ failing. let v = failing_check c fs x failing in clean.0 v.0 v.1), clean_checks c fs xs clean.1)

-- what is said of all questions of the checks, where these are asked for
asked_checks : (P : List Question → Type 0) (t : Task) (c : Config) → t.request.asking ≡ asking.Checks
    → P (check_questions c) → P (questions_in t.request c)
asked_checks P t c e p = subst (λ a. P (questions_of a c)) (sym e) p

-- ---- each cause

pub IsExact-answers : (r : Run) (status : Status) → Answers status r → HaveStatus (line_of r.words) r status
    → HasCounts status r.before r.now → IsExact status r
IsExact-answers r status a statuses counts = record {
  counts = counts;
  unread = λ events name heard there. unread_comes r status a events name heard there;
  usage = λ none. usage_comes r status a none;
  refusal = λ f h.
      statuses.causes h.task h.asks.asked h.asks.names h.asks.told h.asks.no_fault f h.cause;
  none_fails = λ t c fs h clean. pass_comes r status a t c fs h clean;
  one_fails = λ t c fs q h there failing. fail_comes r status a t c fs q h there failing;
  judged = λ t c fs h. judged_comes r status a t c fs h;
  pass = λ t c fs h is clean.
      pass_comes r status a t c fs h
      (asked_checks (λ qs. All (IsClean c fs qs) qs) t c is
      (All-from_recursion (IsClean c fs (check_questions c)) (check_questions c)
      (clean_checks c fs (checks_of c)
      (recursion_from_All (λ x. (run : List Values) → Violates c fs x run → ⊥) (checks_of c) clean))));
  fail = λ t c fs x run h is there violates.
      let both = asked_checks (λ qs. Contains qs (question.Check x) × QuestionFails c fs qs (question.Check x)) t c is (
        to_contains (question.Check x) (check_questions c)
            (in_map (λ y. question.Check y) x (checks_of c) (from_contains x (checks_of c) there)),
        check_failing c fs x run violates,
      ) in
      fail_comes r status a t c fs (question.Check x) h both.0 both.1;
  encoded = λ graph cnf e. encoded_exact graph cnf r status a statuses e;
  exported = λ cfg check file core basedir e. made_exact cfg check file core basedir r status a statuses e;
  no_graph = λ cfg check file core basedir f asks cause.
      (graph_known cfg check file core basedir r status statuses asks.asked).causes asks.names asks.told asks.no_fault
      f cause;
  graph = λ cfg check file core basedir c fs asks read unrefused.
      graph_comes cfg check file core basedir r status a asks c fs read unrefused;
  no_length = λ o steps f asks cause.
      let left : Leaves (Some (words.Induct o steps)) r status =
      subst (λ line. Leaves line r status) asks.asked statuses.leaves in
      left asks.names asks.told asks.no_fault f cause;
  lengths = λ o steps c fs asks read unrefused. lengths_come o steps r status a asks c fs read unrefused;
  length_fails = λ o steps c fs x asks read unrefused there one v.
      length_fail_comes o steps r status a asks c fs read unrefused x there one v;
  other = λ asked wanted report h says.
      by_cause (comes wanted) (comes_WriteFault wanted) (comes_Memory wanted) (Some asked) r status
      (under r (Some asked) status h.asked_is a)
      (λ told said. comes_itself wanted status
      (same_said r h.names h.told h.no_fault asked h.other status wanted told report said says));
}
