-- From the files of a configuration to the end of a run that answers its checks in runs of every length.
use Rattle.std.proofs.Common.{◌≡◌, ℕ, ◌≤◌, List, [], ◌++◌, length, Option, Some, Result, Err, IfOk, refl, sym, ap, ◌∙◌, subst}
use Rattle.std.specs.List.{AllByRecursion}
use Rattle.fv_base.specs.Outside.{SameFiles}
use Rattle.fv_text.specs.declared.memory.Memory.{Memory}
use Rattle.bm_decide.specs.Searches.{TakesFewer}
use Rattle.ck_cfg.specs.declared.config.Config.{Config}
use Rattle.ck_cfg.specs.Checks.{checks_of}
use Rattle.ck_ask.specs.declared.question.Question.{Question}
use Rattle.rvf_judge.specs.declared.induction.Induction.{Induction}
use Rattle.rvf_judge.specs.Sources.{InductionsAreTheSources}
use Rattle.rvf_words.specs.declared.line.Line.{Line as Words}
use Rattle.rvf_words.specs.declared.line.Line.TheVariants as words
use Rattle.rvf_words.specs.declared.line.Options.{Options}
use Rattle.rvf_case.specs.Cases.{AreLoaded, Comes, IsCase, IsReady, Request, names_in, questions_in}
use Rattle.rvf_case.specs.Hearing.{HeardMore, Hears as Heard, all_gave}
use Rattle.rvf_case.specs.declared.case.Case.{Case}
use Rattle.rvf_case.specs.declared.refusal.Refusal.{Refusal}
use Rattle.rvf_case.proofs.Fronts.{read_on}
use Rattle.rvf_report.specs.Outcome.{Outside, Delivers}
use Rattle.rvf_report.specs.Reports.{AreAnswersFrom, Concludes, Plan, all, front}
use Rattle.rvf_report.specs.Reports as reports
use Rattle.rvf_report.proofs.Deliveries.{Delivers-nothing}
use Rattle.rvf_report.specs.declared.delivery.Delivery.{Delivery}
use Rattle.rvf_report.specs.declared.status.Status.{Status}
use Rattle.rvf_report.specs.declared.status.Status.TheVariants as s
use Rattle.rvf_checks.specs.Checked.{is_noted}
use Rattle.rvf_checks.specs.LengthCounting.{length_status_of}
use Rattle.rvf_checks.specs.Lengths.{AreLengths, lengths_plan}
use Rattle.rvf_checks.specs.declared.length_counts.LengthCounts.{LengthCounts}
use Rattle.rvf_checks.proofs.LengthListing.{are_lengths, length_status_is, lengths_begun_is, lengths_whole_is}
use Rattle.rvf_core.specs.Checks.{HasRead}
use Rattle.rvf_core.specs.Lengths.{AreBegun, AreInducted, AreWhole, begun_lengths, length_request, whole_lengths}
use Rattle.rvf_core.specs.Lengths as lengths
use Rattle.rvf_core.specs.Puts.{Puts}
use Rattle.rvf_core.specs.Run.{Ends, Hears, IsReport, Reports, Run, begins_reads, says_reads, seen_in}
use Rattle.rvf_core.specs.Run as run
use Rattle.rvf_core.specs.Verdicts.{IsNoted}
use Rattle.rvf_core.specs.declared.report.Report.{Report}
use Rattle.rvf_core.proofs.Endings.{Fits, IsOwn, ends_put}
use Rattle.rvf_core.proofs.FromChecks.{cause_of, hears_cause, seen_from}
use Rattle.rvf_core.proofs.FromFiles.{if_ok, own_refusal}
use Rattle.rvf_core.proofs.Inducting.{HoldsOf, IsThere, are_inducted, holds_of_each}
use Rattle.rvf_core.proofs.Judging.{noted_over}
use Rattle.rvf_core.proofs.Later.{IsEarlier, cause_later, later_delivers, later_fails, later_stops, reads_later}
use Rattle.rvf_core.proofs.Refusals.{IsLineOf}

-- where memory is wanted before anything is delivered, what is delivered is the front of a report
pub nothing_begun : {A T : Type 0} (plan : Plan A T) (a : Outside) → Concludes plan s.Memory a a
nothing_begun plan a = record {
  answers = [];
  are = tt;
  report = reports.begun plan [];
  is = front refl;
  stops = record { done = []; rest = reports.begun plan []; order = refl; delivered = Delivers-nothing a };
}

module _ (law : InductionsAreTheSources TakesFewer) (o : Options) (steps : ℕ) (r : Run) (case : Case)
    (is : IsCase (length_request o steps) r.before.held case) (ready : IsReady case) where
  abbrev q : Request
  q = length_request o steps

  abbrev c : Config
  c = case.config

  abbrev qs : List Question
  qs = questions_in q c

  abbrev line : Option Words
  line = Some (words.Induct o steps)

  loaded : AreLoaded c is.files qs case.texts
  loaded = subst (λ xs. AreLoaded c is.files xs case.texts) is.questions_are is.loaded

  there : AllByRecursion (HoldsOf (IsThere case) steps) (checks_of c)
  there = holds_of_each (IsThere case) steps (checks_of c) (subst (AllByRecursion (IsThere case)) is.questions_are ready)

  inducted : (answers : List Induction) → AreLengths TakesFewer case steps o.budget (checks_of c) answers
      → AreInducted c is.files qs steps o.budget (checks_of c) answers
  inducted answers are =
      subst (λ xs. AreInducted c is.files xs steps o.budget (checks_of c) answers) is.questions_are
      (are_inducted law case is.files steps o.budget is.loaded (checks_of c) answers there are)

  noted : IsNoted c is.files qs (is_noted case)
  noted =
      subst (λ xs. IsNoted c is.files xs (is_noted case)) is.questions_are
      (noted_over case is.files is.loaded case.questions ready)

  -- the configuration and its files
  abbrev case_read : HasRead q r.before.held c is.files
  case_read = record { configured = is.configured; read = is.read }

  abbrev begun_list : List Induction → List Delivery
  begun_list answers = begun_lengths o.outdir steps o.budget (is_noted case) c.skips (checks_of c) answers

  abbrev whole_list : List Induction → List Delivery
  whole_list answers = whole_lengths o.outdir steps o.budget (is_noted case) c.skips (checks_of c) answers

  abbrev whole_said : (answers : List Induction) → AreLengths TakesFewer case steps o.budget (checks_of c) answers
      → length answers ≡ length (checks_of c) → (status : Status) → status ≡ length_status_of answers
      → AreWhole q r.before.held o.outdir steps o.budget status (whole_list answers)
  whole_said answers are all_answered status status_is = record {
    config = c;
    files = is.files;
    read = case_read;
    unrefused = loaded.unrefused;
    answers = answers;
    inducted = inducted answers are;
    all = all_answered;
    noted = is_noted case;
    is_noted = noted;
    status_is = status_is;
    report_is = refl;
  }

  abbrev begun_said : (answers : List Induction) → AreLengths TakesFewer case steps o.budget (checks_of c) answers
      → AreBegun q r.before.held o.outdir steps o.budget (begun_list answers)
  begun_said answers are = record {
    config = c;
    files = is.files;
    read = case_read;
    unrefused = loaded.unrefused;
    answers = answers;
    inducted = inducted answers are;
    noted = is_noted case;
    is_noted = noted;
    report_is = refl;
  }

  abbrev plan : Plan Induction LengthCounts
  plan = lengths_plan TakesFewer case (checks_of c) o.outdir steps o.budget

  module _ (heard : r.now.heard ≡ r.before.heard ++ all_gave q is.configured.bytes (names_in q c) is.files) where
    -- a report, of which this was read
    abbrev IsHeardReport : List Delivery → Type 0
    IsHeardReport report =
        (is : IsReport line (seen_in r) report) × HeardMore r.before.heard r.now.heard (Hears line (seen_in r) report is)

    reported : (answers : List Induction) (report : List Delivery) → AreAnswersFrom plan 0 answers
        → reports.IsReport plan answers report → IsHeardReport report
    reported answers report are (front e) =
        let b = begun_said answers (are_lengths TakesFewer case o.outdir steps o.budget answers are) in
        subst IsHeardReport (sym (e ∙ lengths_begun_is TakesFewer case o.outdir steps o.budget answers are)) (
          run.begun b,
          record {
            events = begins_reads line (seen_in r) (begun_list answers) b;
            behind = heard;
            are = refl;
          },
        )
    reported answers report are (all n e) =
        let status : Status = length_status_of answers in
        let w = whole_said answers (are_lengths TakesFewer case o.outdir steps o.budget answers are) n status refl in
        subst IsHeardReport (sym (e ∙ lengths_whole_is TakesFewer case o.outdir steps o.budget answers are)) (
          run.whole status (lengths.answered w),
          record {
            events = says_reads line (seen_in r) status (whole_list answers) (lengths.answered w);
            behind = heard;
            are = refl;
          },
        )

    module _ (middle : Outside) (earlier : IsEarlier r.before middle) where
      whole_reported : (status : Status) → reports.Reports plan middle r.now status → Reports line r status
      whole_reported status x =
          let w =
          whole_said x.answers (are_lengths TakesFewer case o.outdir steps o.budget x.answers x.are) x.all status
          (length_status_is TakesFewer case o.outdir steps o.budget x.answers status x.status_is) in
          record {
            report = whole_list x.answers;
            says = lengths.answered w;
            heard = heard;
            delivered = later_delivers r.before middle r.now earlier (whole_list x.answers)
                (subst (λ l. Delivers middle r.now l)
                (lengths_whole_is TakesFewer case o.outdir steps o.budget x.answers x.are) x.delivered);
          }

      pub lengths_concluded : (status : Status) → Concludes plan status middle r.now → Ends line r status
      lengths_concluded s.Passed x = whole_reported s.Passed x
      lengths_concluded s.Failing x = whole_reported s.Failing x
      lengths_concluded s.Spent x = whole_reported s.Spent x
      lengths_concluded s.Usage x = absurd x
      lengths_concluded s.Config x = absurd x
      lengths_concluded s.Source x = absurd x
      lengths_concluded s.Absent x = absurd x
      lengths_concluded s.ReadFault x = absurd x
      lengths_concluded s.WriteFault x =
          let h : IsHeardReport x.report = reported x.answers x.report x.are x.is in
          record {
            report = x.report;
            is = h.0;
            heard = h.1;
            fails = later_fails r.before middle r.now earlier x.report x.fails;
          }
      lengths_concluded s.Heavy x = absurd x
      lengths_concluded s.Refused x = absurd x
      lengths_concluded s.Memory x =
          let h : IsHeardReport x.report = reported x.answers x.report x.are x.is in
          record {
            report = x.report;
            is = h.0;
            heard = h.1;
            stops = later_stops r.before middle r.now earlier x.report x.stops;
          }

-- ---- from the files

module _ (o : Options) (steps : ℕ) (asked : List (List ℕ)) (before middle now : Outside)
    (held : SameFiles before.held middle.held) (sent : middle.sent ≡ before.sent)
    (written : middle.written ≡ before.written)
    (taken : middle.taken ≡ before.taken) (faults : before.faults ≤ middle.faults)
    (out_faults : before.out_faults ≤ middle.out_faults) where
  abbrev request : Request
  request = length_request o steps

  abbrev the_run : Run
  the_run = record { words = asked; before = before; now = now }

  abbrev the_line : Option Words
  the_line = Some (words.Induct o steps)

  earlier : IsEarlier before middle
  earlier = record {
    held = held;
    sent = sent;
    written = written;
    taken = taken;
    faults = faults;
    out_faults = out_faults;
  }

  pub lengths_end : InductionsAreTheSources TakesFewer → (case : Case) (status : Status)
      (is : IsCase request before.held case)
      → HeardMore before.heard middle.heard
      (λ events. events ≡ all_gave request is.configured.bytes (names_in request case.config) is.files)
      → now.heard ≡ middle.heard → IsReady case
      → Concludes (lengths_plan TakesFewer case (checks_of case.config) o.outdir steps o.budget) status middle now
      → Ends the_line the_run status
  lengths_end law case status is heard same ready x =
      lengths_concluded law o steps the_run case is ready
      (same ∙ heard.behind ∙ ap (λ l. before.heard ++ l) heard.are) middle earlier status x

  -- what was read for a refusal
  abbrev IsHeardFor : (f : Refusal) → Comes request (seen_from before middle) (Err f) → Type 0
  IsHeardFor f came = HeardMore before.heard middle.heard (Heard request (seen_from before middle) (Err f) came)

  line_fits : (f : Refusal) (report : Report) (came : Comes request (seen_from before middle) (Err f))
      → IsHeardFor f came → now.heard ≡ middle.heard → middle.misses ≤ now.misses → middle.faults ≤ now.faults
      → IsLineOf f report → Fits the_line the_run middle earlier report
  line_fits f report came heard same misses more p = (
    lengths.refused (record {
      refusal = f;
      cause = cause_later (seen_from before middle) now.misses now.faults misses more request f
          (cause_of request (seen_from before middle) f p.1 came);
      status_is = ap (λ (r : Report). r.status) p.0;
      report_is = ap (λ (r : Report). r.deliveries) p.0;
    }),
    same ∙ heard.behind
        ∙ ap (λ l. before.heard ++ l)
        (hears_cause request (seen_from before middle) f p.1 came heard.events heard.are
        ∙ sym (reads_later (seen_from before middle) now.misses now.faults misses more request f
        (cause_of request (seen_from before middle) f p.1 came))),
    subst IsOwn (sym (ap (λ (r : Report). r.status) p.0)) (own_refusal f p.1),
  )

  pub lengths_refused : (f : Refusal) (made : Result Report Memory) (status : Status)
      (came : Comes request (seen_from before middle) (Err f)) → IsHeardFor f came
      → now.heard ≡ middle.heard → middle.misses ≤ now.misses → middle.faults ≤ now.faults
      → IfOk made (IsLineOf f) → Puts made status middle now → Ends the_line the_run status
  lengths_refused f made status came heard same misses more p put =
      ends_put the_line the_run middle earlier made status
      (if_ok (IsLineOf f) (Fits the_line the_run middle earlier)
      (λ report x. line_fits f report came heard same misses more x) made p)
      (record {
        events = heard.events;
        behind = same ∙ heard.behind;
        are = read_on f request (seen_from before middle) came heard.events heard.are;
      }) put
