-- From a case of one check to the report on its graph.
use Rattle.std.proofs.Common.{◌≡◌, ℕ, ◌≤◌, Bool, true, false, ◌||◌, if◌then◌else◌, List, [], ◌∷◌, ◌++◌, Option, Some, None, Ok}
use Rattle.std.proofs.Common.{Err, refl, sym, ap, ◌∙◌, slice_get, subst, map}
use Rattle.std.proofs.lemmas.Bool.{false≢true}
use Rattle.std.specs.List.{AllByRecursion, list_any}
use Rattle.fv_base.specs.Outside.{Told}
use Rattle.fv_base.specs.declared.event.Event.{Event}
use Rattle.ck_cfg.specs.declared.check.Check.{Check}
use Rattle.ck_cfg.specs.declared.config.Config.{Config}
use Rattle.ck_cfg.specs.Checks.{checks_of, is_named}
use Rattle.rv_table.specs.declared.retire.Opts.{Opts}
use Rattle.vl_mean.specs.FlatParts.{flat_parts}
use Rattle.vl_mean.specs.Parts.{Part}
use Rattle.rvfi_port.specs.declared.port.Wants.{Wants}
use Rattle.ck_design.specs.Loaded.{IsLoaded}
use Rattle.rvf_case.specs.Askings.{has_check}
use Rattle.rvf_case.specs.Cases.{AreLoaded, Comes, IsCase, IsCause, IsFit, IsReady, Request, Seen, loaded_for, names_in}
use Rattle.rvf_case.specs.Cases.{questions_in}
use Rattle.rvf_case.specs.Hearing.{HeardMore, Hears, all_gave}
use Rattle.rvf_case.specs.Loading.{Loaded}
use Rattle.rvf_case.specs.Loads.{IsLoadedFrom, design_of}
use Rattle.rvf_case.specs.Texts.{leaders, only_named}
use Rattle.rvf_case.specs.declared.case.Case.{Case}
use Rattle.rvf_case.specs.declared.refusal.Refusal.{Refusal}
use Rattle.rvf_case.specs.declared.refusal.Refusal.TheVariants as refusal
use Rattle.rvf_graph.specs.GraphTexts.{TellsRuns}
use Rattle.rvf_graph.specs.Sources.{GraphsAreTheSources}
use Rattle.rvf_graph.specs.declared.text.GraphText.{GraphText}
use Rattle.ck_ask.specs.Questions.{question_kind}
use Rattle.ck_ask.specs.declared.question.Question.{Question}
use Rattle.ck_ask.specs.declared.question.Question.TheVariants as question
use Rattle.rvf_report.specs.declared.delivery.Delivery.{Delivery}
use Rattle.rvf_report.specs.declared.status.Status.{Status}
use Rattle.rvf_report.specs.declared.status.Status.TheVariants as s
use Rattle.rvf_core.specs.Checks.{refused_status}
use Rattle.rvf_core.specs.Exports.{Exports, IsExported, check_request, exports_reads, graph_file}
use Rattle.rvf_core.specs.Exports as exports
use Rattle.rvf_core.specs.Steps.{ExportsBy, IsGraphReport, is_memory}
use Rattle.rvf_core.specs.Verdicts.{Tells, text_for, wants_in}
use Rattle.rvf_core.specs.declared.report.Report.{Report}
use Rattle.rvf_core.proofs.Endings.{IsOwn}
use Rattle.rvf_core.proofs.FromChecks.{cause_of, hears_cause}
use Rattle.rvf_core.proofs.FromFiles.{own_refusal}
use Rattle.rvf_core.proofs.Judging.{loaded_of}
use Rattle.rvf_core.proofs.Later.{cause_later, reads_later, seen_later}
use Rattle.rvf_core.proofs.Refusals.{IsLineOf}

-- ---- the one check of a name

one_named : (name : List ℕ) (xs : List Check) → list_any (is_named name) xs ≡ true
    → (x : Check) × (only_named name xs ≡ x ∷ [])
one_named name [] e = absurd (false≢true e)
one_named name (y ∷ ys) e = step (is_named name y) e (one_named name ys) where
  step : (b : Bool) → (b || list_any (is_named name) ys) ≡ true
      → (list_any (is_named name) ys ≡ true → (x : Check) × (only_named name ys ≡ x ∷ []))
      → (x : Check) × ((if b then y ∷ [] else only_named name ys) ≡ x ∷ [])
  step true h f = (y, refl)
  step false h f = f h

module _ (cfg name file core basedir : List ℕ) where
  abbrev q : Request
  q = check_request cfg name core basedir

  -- the questions of a case are the one of its check
  pub one_question : (held : Told) (case : Case) → IsCase q held case
      → (x : Check) × (case.questions ≡ question.Check x ∷ [])
  one_question held case is =
      let named = one_named name (checks_of case.config) is.configured.there in
      (named.0, is.questions_are ∙ ap (map (λ x. question.Check x)) named.1)

  -- ---- the graph of a question of the case

  graph_tells : GraphsAreTheSources → (case : Case) (files : List (List ℕ)) (x : Question) (l : Loaded)
      (report : Report) → AreLoaded case.config files case.questions case.texts → loaded_for case x ≡ Some l
      → case.questions ≡ x ∷ [] → (h : IsGraphReport case file report)
      → Tells case.config files case.questions x h.made
  graph_tells law case files x l report loaded there alone h =
      let c = case.config in
      let text = text_for c files case.questions (question_kind x) in
      let is : IsLoadedFrom text l = loaded_of case files x l loaded there in
      let source = design_of is.reading.tree.modules in
      let wants = wants_in text is.reading in
      record {
        reading = is.reading;
        is = record { reads = is.writes.reads; accepted = is.writes.is_flat.unrefused };
        one = is.one;
        tells = subst (λ (opts : Opts). TellsRuns source c.nret wants x opts h.made) is.options
            (law source is.flat c.nret wants x l.opts h.made is.writes.is_flat.drawn is.writes.is_flat.same
            (h.tells x l alone there (flat_parts is.flat) c.nret wants is.loaded));
      }

  pub exported_said : GraphsAreTheSources → (held : Told) (case : Case) (is : IsCase q held case) → IsReady case
      → (report : Report) → IsGraphReport case file report
      → IsExported cfg name file core basedir held report.status report.deliveries
  exported_said law held case is ready report h =
      let c = case.config in
      let named = one_named name (checks_of c) is.configured.there in
      let x : Question = question.Check named.0 in
      let alone : case.questions ≡ x ∷ [] = is.questions_are ∙ ap (map (λ y. question.Check y)) named.1 in
      let there : AllByRecursion (λ y. (l : Loaded) × (loaded_for case y ≡ Some l) × IsFit c.nret y l) (x ∷ []) =
      subst (AllByRecursion (λ y. (l : Loaded) × (loaded_for case y ≡ Some l) × IsFit c.nret y l)) alone ready in
      let own : AreLoaded c is.files (questions_in q c) case.texts =
      subst (λ (xs : List Question). AreLoaded c is.files xs case.texts) is.questions_are is.loaded in
      record {
        config = c;
        files = is.files;
        read = record { configured = is.configured; read = is.read };
        unrefused = own.unrefused;
        check = named.0;
        named = named.1;
        made = h.made;
        tells = subst (λ (xs : List Question). Tells c is.files xs x h.made) is.questions_are
            (graph_tells law case is.files x there.0.0 report is.loaded there.0.1 alone h);
        status_is = h.status_is;
        report_is = h.report_is;
      }

  -- ---- what is said, and what was read for it

  pub case_exports : GraphsAreTheSources → (seen : Seen) (before now : List Event) (case : Case)
      (is : IsCase q seen.held case) → IsReady case
      → HeardMore before now (λ events. events ≡ all_gave q is.configured.bytes (names_in q case.config) is.files)
      → (report : Report) → IsGraphReport case file report
      → ExportsBy cfg name file core basedir before now seen report
  unfolding exported_said
  case_exports law seen before now case is ready heard report h = (
    exports.exported (exported_said law seen.held case is ready report h),
    heard.behind ∙ ap (λ l. before ++ l) heard.are,
  )

  pub refusal_exports : (seen : Seen) (before now : List Event) (f : Refusal) (came : Comes q seen (Err f))
      → HeardMore before now (Hears q seen (Err f) came) → (report : Report) → IsLineOf f report
      → ExportsBy cfg name file core basedir before now seen report
  refusal_exports seen before now f came heard report p = (
    exports.refused (record {
      refusal = f;
      cause = cause_of q seen f p.1 came;
      status_is = ap (λ (r : Report). r.status) p.0;
      report_is = ap (λ (r : Report). r.deliveries) p.0;
    }),
    heard.behind ∙ ap (λ l. before ++ l) (hears_cause q seen f p.1 came heard.events heard.are),
  )

  -- a cause isn't want of memory
  some_cause : (seen : Seen) (f : Refusal) → IsCause q seen f → is_memory f ≡ false
  some_cause seen (refusal.Absent n) x = refl
  some_cause seen (refusal.Unread n) x = refl
  some_cause seen (refusal.Config f) x = refl
  some_cause seen (refusal.NoCheck n) x = refl
  some_cause seen (refusal.Source f names) x = refl
  some_cause seen (refusal.Heavy n number) x = refl
  some_cause seen refusal.Memory x = absurd x

  -- what it comes to stands for a cause of its own
  pub own_exported : (seen : Seen) (status : Status) (report : List Delivery)
      → Exports cfg name file core basedir seen status report → IsOwn status
  own_exported seen status report (exports.exported x) = subst IsOwn (sym x.status_is) tt
  own_exported seen status report (exports.refused x) =
      subst IsOwn (sym x.status_is) (own_refusal x.refusal (some_cause seen x.refusal x.cause))

  module _ (seen : Seen) (misses faults : ℕ) (more_misses : seen.misses_now ≤ misses)
      (more_faults : seen.faults_now ≤ faults) where
    abbrev pub exports_later : (status : Status) (report : List Delivery)
        → Exports cfg name file core basedir seen status report
        → Exports cfg name file core basedir (seen_later seen misses faults) status report
    exports_later status report (exports.exported x) = exports.exported x
    exports_later status report (exports.refused x) = exports.refused (record {
      refusal = x.refusal;
      cause = cause_later seen misses faults more_misses more_faults q x.refusal x.cause;
      status_is = x.status_is;
      report_is = x.report_is;
    })

    pub exports_reads_later : (status : Status) (report : List Delivery)
        (x : Exports cfg name file core basedir seen status report)
        → exports_reads cfg name file core basedir (seen_later seen misses faults) status report
        (exports_later status report x) ≡ exports_reads cfg name file core basedir seen status report x
    exports_reads_later status report (exports.exported x) = refl
    exports_reads_later status report (exports.refused x) =
        reads_later seen misses faults more_misses more_faults q x.refusal x.cause

-- ---- the graph of the one question

some_question : (a b : Question) → ◌≡◌ {A = Option Question} (Some a) (Some b) → a ≡ b
some_question a b e = cc

some_loaded : (a b : Loaded) → ◌≡◌ {A = Option Loaded} (Some a) (Some b) → a ≡ b
some_loaded a b e = cc

pub none_first : (qs : List Question) (q : Question) → qs ≡ q ∷ [] → None ≡ slice_get qs 0 → ⊥
none_first qs q e none = let no : None ≡ Some q = none ∙ ap (λ xs. slice_get xs 0) e in cc

pub graph_report : (case : Case) (file : List ℕ) (q : Question) (l : Loaded) (made : GraphText) (report : Report)
    → slice_get case.questions 0 ≡ Some q → Some l ≡ loaded_for case q
    → ((ps : List Part) (channels : ℕ) (wants : Wants) → IsLoaded ps l.net l.names channels wants l.port
    → TellsRuns ps channels wants q l.opts made)
    → report.status ≡ s.Passed → report.deliveries ≡ graph_file file made → IsGraphReport case file report
graph_report case file q l made report there found tells status_is report_is = record {
  made = made;
  tells = λ other theirs alone loaded.
      let e : q ≡ other = some_question q other (sym there ∙ ap (λ (xs : List Question). slice_get xs 0) alone) in
      let f : l ≡ theirs =
      some_loaded l theirs (found ∙ ap (loaded_for case) e ∙ loaded) in
      subst (λ (y : Question). (ps : List Part) (channels : ℕ) (wants : Wants)
      → IsLoaded ps theirs.net theirs.names channels wants theirs.port → TellsRuns ps channels wants y theirs.opts made) e
      (subst (λ (z : Loaded). (ps : List Part) (channels : ℕ) (wants : Wants)
      → IsLoaded ps z.net z.names channels wants z.port → TellsRuns ps channels wants q z.opts made) f tells);
  status_is = status_is;
  report_is = report_is;
}
