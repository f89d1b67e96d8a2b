-- How a run ends: with the status whose report was delivered, or with what took its place.
use Rattle.std.proofs.Common.{◌≡◌, ℕ, List, [], ◌++◌, Option, Result, Ok, Err}
use Rattle.std.proofs.Common.{IfOk, length, refl, sym, ap, ◌∙◌, subst}
use Rattle.fv_text.specs.declared.memory.Memory.{Memory}
use Rattle.fv_base.specs.Outside.{Told}
use Rattle.fv_base.specs.declared.event.Event.{Event}
use Rattle.fv_base.specs.declared.out.OutFault.{OutFault}
use Rattle.fv_base.specs.declared.out.OutFault.TheVariants as out
use Rattle.ck_cfg.specs.declared.config.Config.{Config}
use Rattle.ck_ask.specs.declared.question.Question.{Question}
use Rattle.rvf_judge.specs.declared.judged.Judged.{Judged}
use Rattle.rvf_judge.specs.Sources.{JudgementsAreTheSources}
use Rattle.rvf_words.specs.declared.line.Line.{Line as Words}
use Rattle.rvf_case.specs.Cases.{AreLoaded, IsCase, IsReady, Request, questions_in}
use Rattle.rvf_case.specs.Hearing.{HeardMore}
use Rattle.rvf_case.specs.declared.case.Case.{Case}
use Rattle.rvf_report.specs.Outcome.{Outside, Delivers, IsDelivered}
use Rattle.rvf_report.specs.Reports.{AreAnswersFrom, Concludes, Plan, all, front}
use Rattle.rvf_report.specs.Reports as reports
use Rattle.rvf_checks.specs.Answers.{AreAnswers}
use Rattle.rvf_checks.specs.Checked.{begun, is_noted, plan_of, whole}
use Rattle.rvf_checks.specs.Counting.{status_of}
use Rattle.rvf_checks.specs.declared.counts.Counts.{Counts}
use Rattle.rvf_checks.specs.declared.wording.Wording.{Wording}
use Rattle.rvf_checks.specs.Known.{known_of}
use Rattle.rvf_checks.proofs.Listing.{are_answers, begun_is, status_is, whole_is}
use Rattle.rvf_report.specs.Status.{ends}
use Rattle.rvf_report.specs.declared.delivery.Delivery.{Delivery}
use Rattle.rvf_report.specs.declared.status.Status.{Status}
use Rattle.rvf_report.specs.declared.status.Status.TheVariants as s
use Rattle.rvf_core.specs.Checks.{HasRead, IsBegun, IsWhole}
use Rattle.rvf_core.specs.Puts.{Puts}
use Rattle.rvf_core.specs.Run.{Begins, Ends, Hears, IsReadOn, IsReport, Reports, Run, Says, begins_reads, says_reads}
use Rattle.rvf_core.specs.Run.{seen_in}
use Rattle.rvf_core.specs.Run as run
use Rattle.rvf_core.specs.Verdicts.{AreJudged, IsNoted}
use Rattle.rvf_core.specs.declared.report.Report.{Report}
use Rattle.rvf_core.proofs.Judging.{are_judged, noted_over}
use Rattle.rvf_core.proofs.Later.{IsEarlier, later_delivers, later_fails, later_stops}

-- the status stands for a cause of its own: no delivery failed, and memory wasn't wanted
abbrev pub IsOwn : Status → Type 0
IsOwn s.WriteFault = ⊥
IsOwn s.Memory = ⊥
IsOwn status = Unit {0}

module _ (asked : Option Words) (r : Run) where
  ends_reported : (status : Status) → IsOwn status → Reports asked r status → Ends asked r status
  ends_reported s.Passed own x = x
  ends_reported s.Failing own x = x
  ends_reported s.Spent own x = x
  ends_reported s.Usage own x = x
  ends_reported s.Config own x = x
  ends_reported s.Source own x = x
  ends_reported s.Absent own x = x
  ends_reported s.ReadFault own x = x
  ends_reported s.WriteFault own x = absurd own
  ends_reported s.Heavy own x = x
  ends_reported s.Refused own x = x
  ends_reported s.Memory own x = absurd own

-- ---- a report that is there before it is delivered

module _ (asked : Option Words) (r : Run) (middle : Outside) (earlier : IsEarlier r.before middle) where
  -- what was read is what the report speaks of
  abbrev IsHeard : (status : Status) (report : List Delivery) → Says asked (seen_in r) status report → Type 0
  IsHeard status report says = r.now.heard ≡ r.before.heard ++ says_reads asked (seen_in r) status report says

  -- a report that has its cause was delivered as far as the answer says
  ends_delivered : (delivered : Result (Unit {0}) OutFault) (status : Status) (report : List Delivery)
      (says : Says asked (seen_in r) status report) → IsHeard status report says → IsOwn status
      → IsDelivered delivered middle r.now report
      → Ends asked r (ends delivered status)
  ends_delivered (Ok u) status report says heard own d =
      ends_reported asked r status own (record {
        report = report;
        says = says;
        heard = heard;
        delivered = later_delivers r.before middle r.now earlier report d;
      })
  ends_delivered (Err out.Failed) status report says heard own d = record {
    report = report;
    is = run.whole status says;
    heard = record { events = says_reads asked (seen_in r) status report says; behind = heard; are = refl };
    fails = later_fails r.before middle r.now earlier report d;
  }
  ends_delivered (Err out.Memory) status report says heard own d = record {
    report = report;
    is = run.whole status says;
    heard = record { events = says_reads asked (seen_in r) status report says; behind = heard; are = refl };
    stops = later_stops r.before middle r.now earlier report d;
  }

  -- what a made report has to say
  abbrev pub Fits : Report → Type 0
  Fits report =
      (says : Says asked (seen_in r) report.status report.deliveries)
      × IsHeard report.status report.deliveries says × IsOwn report.status

  pub ends_put : (made : Result Report Memory) (status : Status) → IfOk made Fits
      → HeardMore r.before.heard r.now.heard (IsReadOn asked) → Puts made status middle r.now → Ends asked r status
  ends_put (Ok report) status fits heard put =
      subst (λ x. Ends asked r x) (sym put.status_is)
      (ends_delivered put.delivered report.status report.deliveries fits.0 fits.1 fits.2 put.is)
  ends_put (Err fault) status fits heard put =
      subst (λ x. Ends asked r x) (sym put.0) (record {
        report = [];
        is = run.nothing refl;
        heard = heard;
        stops = record {
          done = [];
          rest = [];
          order = refl;
          delivered = later_delivers r.before middle r.now earlier [] put.1;
        };
      })

-- ---- questions that are answered while their report is delivered

module _ (cubes : ℕ) (law : JudgementsAreTheSources (known_of cubes)) (q : Request) (held : Told) (words : Wording)
    (folder : List ℕ) (budget : ℕ) (case : Case) (is : IsCase q held case) (ready : IsReady case) where
  abbrev c : Config
  c = case.config

  abbrev qs : List Question
  qs = questions_in q c

  loaded : AreLoaded c is.files qs case.texts
  loaded = subst (λ xs. AreLoaded c is.files xs case.texts) is.questions_are is.loaded

  judged : (answers : List Judged) → AreAnswers (known_of cubes) case budget case.questions answers
      → AreJudged c is.files qs budget cubes qs answers
  judged answers are =
      subst (λ xs. AreJudged c is.files xs budget cubes xs answers) is.questions_are
      (are_judged cubes law case is.files budget is.loaded case.questions answers ready are)

  noted : IsNoted c is.files qs (is_noted case)
  noted =
      subst (λ xs. IsNoted c is.files xs (is_noted case)) is.questions_are
      (noted_over case is.files is.loaded case.questions ready)

  -- the configuration and its files
  abbrev case_read : HasRead q held c is.files
  case_read = record { configured = is.configured; read = is.read }

  abbrev whole_said : (status : Status) (answers : List Judged)
      → AreAnswers (known_of cubes) case budget case.questions answers → length answers ≡ length case.questions
      → status ≡ status_of case.questions answers → IsWhole q held words folder budget cubes status
      (whole words folder budget (is_noted case) c.skips case.questions answers)
  whole_said status answers are all_answered status_is = record {
    config = c;
    files = is.files;
    read = case_read;
    unrefused = loaded.unrefused;
    answers = answers;
    judged = judged answers are;
    all = all_answered ∙ ap length is.questions_are;
    noted = is_noted case;
    is_noted = noted;
    status_is = status_is ∙ ap (λ xs. status_of xs answers) is.questions_are;
    report_is = ap (λ xs. whole words folder budget (is_noted case) c.skips xs answers) is.questions_are;
  }

  abbrev begun_said : (answers : List Judged) → AreAnswers (known_of cubes) case budget case.questions answers
      → IsBegun q held words folder budget cubes
      (begun words folder budget (is_noted case) c.skips case.questions answers)
  begun_said answers are = record {
    config = c;
    files = is.files;
    read = case_read;
    unrefused = loaded.unrefused;
    answers = answers;
    judged = judged answers are;
    noted = is_noted case;
    is_noted = noted;
    report_is = ap (λ xs. begun words folder budget (is_noted case) c.skips xs answers) is.questions_are;
  }

  abbrev plan : Plan Judged Counts
  plan = plan_of (known_of cubes) case words folder budget

  -- what is said where the words ask for these questions, and which of what was read for them the files heard
  module _ (asked : Option Words) (r : Run)
      (reads : (d : Config) (files : List (List ℕ)) → HasRead q held d files → List Event)
      (says : (status : Status) (report : List Delivery) → IsWhole q held words folder budget cubes status report
      → Says asked (seen_in r) status report)
      (begins : (report : List Delivery) → IsBegun q held words folder budget cubes report
      → Begins asked (seen_in r) report)
      (says_of : (status : Status) (report : List Delivery) (w : IsWhole q held words folder budget cubes status report)
      → says_reads asked (seen_in r) status report (says status report w) ≡ reads w.config w.files w.read)
      (begins_of : (report : List Delivery) (b : IsBegun q held words folder budget cubes report)
      → begins_reads asked (seen_in r) report (begins report b) ≡ reads b.config b.files b.read)
      (heard : r.now.heard ≡ r.before.heard ++ reads c is.files case_read) where
    -- a report, of which this was read
    abbrev IsHeardReport : List Delivery → Type 0
    IsHeardReport report =
        (is : IsReport asked (seen_in r) report)
        × HeardMore r.before.heard r.now.heard (Hears asked (seen_in r) report is)

    reported : (answers : List Judged) (report : List Delivery) → AreAnswersFrom plan 0 answers
        → reports.IsReport plan answers report → IsHeardReport report
    reported answers report are (front e) =
        let list : List Delivery = begun words folder budget (is_noted case) c.skips case.questions answers in
        let b : IsBegun q held words folder budget cubes list =
        begun_said answers (are_answers (known_of cubes) case words folder budget answers are) in
        subst IsHeardReport (sym (e ∙ begun_is (known_of cubes) case words folder budget answers are)) (
          run.begun (begins list b),
          record {
            events = begins_reads asked (seen_in r) list (begins list b);
            behind = heard ∙ ap (λ l. r.before.heard ++ l) (sym (begins_of list b));
            are = refl;
          },
        )
    reported answers report are (all n e) =
        let list : List Delivery = whole words folder budget (is_noted case) c.skips case.questions answers in
        let status : Status = status_of case.questions answers in
        let w : IsWhole q held words folder budget cubes status list =
        whole_said status answers (are_answers (known_of cubes) case words folder budget answers are) n refl in
        subst IsHeardReport (sym (e ∙ whole_is (known_of cubes) case words folder budget answers are)) (
          run.whole status (says status list w),
          record {
            events = says_reads asked (seen_in r) status list (says status list w);
            behind = heard ∙ ap (λ l. r.before.heard ++ l) (sym (says_of status list w));
            are = refl;
          },
        )

    module _ (middle : Outside) (earlier : IsEarlier r.before middle) where
      whole_reported : (status : Status) → reports.Reports plan middle r.now status → Reports asked r status
      whole_reported status x =
          let list : List Delivery = whole words folder budget (is_noted case) c.skips case.questions x.answers in
          let w : IsWhole q held words folder budget cubes status list =
          whole_said status x.answers (are_answers (known_of cubes) case words folder budget x.answers x.are) x.all
          (status_is (known_of cubes) case words folder budget x.answers status x.are x.status_is) in
          record {
            report = list;
            says = says status list w;
            heard = heard ∙ ap (λ l. r.before.heard ++ l) (sym (says_of status list w));
            delivered = later_delivers r.before middle r.now earlier list
                (subst (λ l. Delivers middle r.now l)
                (whole_is (known_of cubes) case words folder budget x.answers x.are) x.delivered);
          }

      pub ends_concluded : (status : Status) → Concludes plan status middle r.now → Ends asked r status
      ends_concluded s.Passed x = whole_reported s.Passed x
      ends_concluded s.Failing x = whole_reported s.Failing x
      ends_concluded s.Spent x = whole_reported s.Spent x
      ends_concluded s.Usage x = absurd x
      ends_concluded s.Config x = absurd x
      ends_concluded s.Source x = absurd x
      ends_concluded s.Absent x = absurd x
      ends_concluded s.ReadFault x = absurd x
      ends_concluded s.WriteFault x =
          let h : IsHeardReport x.report = reported x.answers x.report x.are x.is in
          record {
            report = x.report;
            is = h.0;
            heard = h.1;
            fails = later_fails r.before middle r.now earlier x.report x.fails;
          }
      ends_concluded s.Heavy x = absurd x
      ends_concluded s.Refused x = absurd x
      ends_concluded s.Memory x =
          let h : IsHeardReport x.report = reported x.answers x.report x.are x.is in
          record {
            report = x.report;
            is = h.0;
            heard = h.1;
            stops = later_stops r.before middle r.now earlier x.report x.stops;
          }
