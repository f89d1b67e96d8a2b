-- A line `proved NAME K` that was put is of a check that is proved.
use Rattle.std.proofs.Common.{◌≡◌, ℕ, ◌+◌, ◌==◌, ◌≤◌, Bool, true, false, List, [], ◌∷◌, ◌++◌, Some, length}
use Rattle.std.proofs.Common.{Option, refl, sym, ap, ◌∙◌, subst, append_assoc, true≢false, arith}
use Rattle.std.proofs.lemmas.List.{append-nil, append_cancel_left, append_cancel_right}
use Rattle.std.proofs.lemmas.List.Elements.{All-contains, All-from_recursion, Contains-append_right}
use Rattle.std.specs.Prelude.{codes, decimal}
use Rattle.std.specs.List.{AllByRecursion, Contains}
use Rattle.fv_base.specs.declared.event.Event.{Event}
use Rattle.fv_base.specs.declared.event.Event.TheVariants.{Put}
use Rattle.ck_cfg.specs.declared.check.Check.{Check}
use Rattle.ck_cfg.specs.declared.config.Config.{Config}
use Rattle.ck_cfg.specs.Checks.{checks_of}
use Rattle.ck_ask.specs.declared.question.Question.{Question}
use Rattle.ck_gen.specs.Monitors.{is_of_one_cycle}
use Rattle.ck_induct.specs.OneCycle.{holds_in_map, in_cycle}
use Rattle.ck_induct.proofs.OneCycle.{properties_are_of_maps}
use Rattle.bm_decide.specs.Searches.{TakesFewer}
use Rattle.rvf_case.specs.Loads.{design_of}
use Rattle.rvf_judge.specs.declared.judged.CertificateTexts.{CertificateTexts}
use Rattle.rvf_judge.specs.declared.induction.Induction.{Induction}
use Rattle.rvf_judge.specs.declared.induction.Induction.TheVariants as induction
use Rattle.rvf_judge.specs.Inducted.{IsInductedBy, IsProved}
use Rattle.rvf_words.specs.declared.line.Line.{Line as Words}
use Rattle.rvf_words.specs.declared.line.Line.TheVariants as words
use Rattle.rvf_words.specs.declared.line.Options.{Options}
use Rattle.rvf_words.specs.Line.{line_of}
use Rattle.rvf_case.specs.Cases.{Request, Seen, questions_in}
use Rattle.rvf_case.specs.Hearing.{HeardMore}
use Rattle.rvf_checks.specs.Checked.{head, note_of, skips_of}
use Rattle.rvf_checks.specs.CheckLines.{fail_line, note_line, skip_line, spent_line}
use Rattle.rvf_checks.specs.Deliveries.{path}
use Rattle.rvf_checks.specs.LengthCounting.{lengths_of}
use Rattle.rvf_checks.specs.LengthLines.{lengths_line, open_line, proved_line}
use Rattle.rvf_checks.specs.Lengths.{base_name, length_deliveries, lengths_answered, step_name}
use Rattle.rvf_report.specs.Lines.{refusal_line}
use Rattle.rvf_report.specs.Outcome.{Pass, puts_of}
use Rattle.rvf_report.specs.declared.delivery.Delivery.{Delivery}
use Rattle.rvf_report.specs.declared.delivery.Delivery.TheVariants.{File, Line}
use Rattle.rvf_report.specs.declared.status.Status.{Status}
use Rattle.rvf_report.specs.declared.status.Status.TheVariants as s
use Rattle.rvf_core.specs.Checks.{HasRead, has_reads}
use Rattle.rvf_core.specs.Lengths.{AreInducted, Inducts, InductsWhere, LengthsAre, ProvedMeans}
use Rattle.rvf_core.specs.Lengths.{begun_lengths, length_request, lengths_reads, whole_lengths}
use Rattle.rvf_core.specs.Lengths as lengths
use Rattle.rvf_core.specs.ProvedLaw.{HasProved, ProofsAreMeant}
use Rattle.rvf_core.specs.Run.{Hears, IsReport, Reports, Run, says_reads, seen_in}
use Rattle.rvf_core.specs.Run as run
use Rattle.rvf_core.specs.Verdicts.{opts_in, text_for, wants_in}
use Rattle.rvf_core.proofs.Later.{part_pass}
use Rattle.rvf_core.proofs.Passes.{first, no_file, refused_other, same_before, same_line, same_put}

-- ---- names

same_name : (a b : List ℕ) (k : ℕ) → proved_line a k ≡ proved_line b k → a ≡ b
same_name a b k e =
    let front : codes "proved " ++ (a ++ 32 ∷ []) ≡ codes "proved " ++ (b ++ 32 ∷ []) =
    append_cancel_right (codes "proved " ++ (a ++ 32 ∷ [])) (codes "proved " ++ (b ++ 32 ∷ [])) (decimal k ++ 10 ∷ []) e in
    same_before 32 a b (append_cancel_left (codes "proved ") (a ++ 32 ∷ []) (b ++ 32 ∷ []) front)

-- ---- what is proved

at_least : (j : ℕ) → j ≤ j
at_least j = omega arith

module _ (c : Config) (files : List (List ℕ)) (qs : List Question) (steps budget : ℕ) (x : Check)
    (base step : CertificateTexts) where
  proved_means : is_of_one_cycle x.kind ≡ true → Inducts c files qs steps budget x (induction.Proved base step)
      → ProvedMeans c files qs x
  proved_means one g =
      let wants = wants_in (text_for c files qs x.kind) g.reading in
      let opts = opts_in (text_for c files qs x.kind) g.reading in
      let ps = design_of g.reading.tree.modules in
      let proof : IsProved ps (holds_in_map c.nret wants x opts) steps TakesFewer budget base step =
      subst (λ b. IsInductedBy b TakesFewer ps c.nret wants x opts steps budget (induction.Proved base step)) one
      g.inducted in
      record {
        reading = g.reading;
        reads = g.is.reads;
        one = g.one;
        holds = λ j run some is_run assumed.
            properties_are_of_maps run c.nret wants (in_cycle x j) opts one (at_least j) ∙ proof.always j run some is_run assumed;
      }

  -- one that isn't of one cycle is skipped
  never_proved : induction.Proved base step ≡ induction.Skipped → ⊥
  never_proved e = cc

  by_kind : (b : Bool) → is_of_one_cycle x.kind ≡ b → InductsWhere b c files qs steps budget x (induction.Proved base step)
      → ProvedMeans c files qs x
  by_kind true one g = proved_means one g
  by_kind false none g = absurd (never_proved g)

module _ (name : List ℕ) (steps : ℕ) (Meant : Type 0) where
  -- if it is the line, it has its meaning
  abbrev IsMeant : Delivery → Type 0
  IsMeant d = d ≡ Line (proved_line name steps) → Meant

  both : (ds es : List Delivery) → AllByRecursion IsMeant ds → AllByRecursion IsMeant es
      → AllByRecursion IsMeant (ds ++ es)
  both [] es p q = q
  both (d ∷ ds) es p q = (p.0, both ds es p.1 q)

  -- and if it is a put of the line
  abbrev IsMeantPut : Event → Type 0
  IsMeantPut e = e ≡ Put (proved_line name steps) → Meant

  puts_meant : (ds : List Delivery) → AllByRecursion IsMeant ds → AllByRecursion IsMeantPut (puts_of ds)
  puts_meant [] p = tt
  puts_meant (File at bytes ∷ ds) p = puts_meant ds p.1
  puts_meant (Line bytes ∷ ds) p =
      ((λ e. p.0 (ap (λ l. Line l) (same_put bytes (proved_line name steps) e))), puts_meant ds p.1)

  front_meant : (ds es : List Delivery) → AllByRecursion IsMeant (ds ++ es) → AllByRecursion IsMeant ds
  front_meant [] es p = tt
  front_meant (d ∷ ds) es p = (p.0, front_meant ds es p.1)

  -- another line
  other : (line : List ℕ) → (first line == 112) ≡ false → IsMeant (Line line)
  other line apart e =
      absurd (true≢false (sym (ap (λ l. first l == 112) (same_line line (proved_line name steps) e)) ∙ apart))

  file : (at bytes : List ℕ) → IsMeant (File at bytes)
  file at bytes e = absurd (no_file at bytes (proved_line name steps) e)

  delivered : (folder : List ℕ) (budget : ℕ) (x : List ℕ) (m : Induction)
      → ((base step : CertificateTexts) → m ≡ induction.Proved base step → x ≡ name → Meant)
      → AllByRecursion IsMeant (length_deliveries folder x steps budget m)
  delivered folder budget x induction.Skipped f = (other (skip_line x) refl, tt)
  delivered folder budget x (induction.Fails dump) f =
      (file (path folder x (codes ".vcd")) dump, (other (fail_line x) refl, tt))
  delivered folder budget x (induction.Open dump) f =
      (file (path folder (step_name x) (codes ".vcd")) dump, (other (open_line x) refl, tt))
  delivered folder budget x (induction.Proved base step) f =
      let line : IsMeant (Line (proved_line x steps)) =
      λ e. f base step refl (same_name x name steps (same_line (proved_line x steps) (proved_line name steps) e)) in (
        file (path folder (base_name x) (codes ".cnf")) base.clauses,
        (
          file (path folder (base_name x) (codes ".lrat")) base.steps,
          (
            file (path folder (step_name x) (codes ".cnf")) step.clauses,
            (file (path folder (step_name x) (codes ".lrat")) step.steps, (line, tt)),
          ),
        ),
      )
  delivered folder budget x (induction.SpentBase texts) f = (
    file (path folder (base_name x) (codes ".cnf")) texts.clauses,
    (file (path folder (base_name x) (codes ".lrat")) texts.steps, (other (spent_line x budget) refl, tt)),
  )
  delivered folder budget x (induction.SpentStep texts) f = (
    file (path folder (step_name x) (codes ".cnf")) texts.clauses,
    (file (path folder (step_name x) (codes ".lrat")) texts.steps, (other (spent_line x budget) refl, tt)),
  )

  noted_meant : (noted : Bool) → AllByRecursion IsMeant (note_of noted)
  noted_meant true = (other note_line refl, tt)
  noted_meant false = tt

  skips_meant : (skips : List (List ℕ)) → AllByRecursion IsMeant (skips_of skips)
  skips_meant [] = tt
  skips_meant (kind ∷ skips) = (other (skip_line kind) refl, skips_meant skips)

  head_meant : (noted : Bool) (skips : List (List ℕ)) → AllByRecursion IsMeant (head noted skips)
  head_meant noted skips = both (note_of noted) (skips_of skips) (noted_meant noted) (skips_meant skips)

  module _ (c : Config) (files : List (List ℕ)) (qs : List Question) (folder : List ℕ) (budget : ℕ)
      (meant : (x : Check) → Contains (checks_of c) x → x.name ≡ name → ProvedMeans c files qs x → Meant) where
    of_check : (x : Check) (m : Induction) → Contains (checks_of c) x
        → InductsWhere (is_of_one_cycle x.kind) c files qs steps budget x m
        → AllByRecursion IsMeant (length_deliveries folder x.name steps budget m)
    of_check x m among g =
        delivered folder budget x.name m
        (λ base step is named. meant x among named
        (by_kind c files qs steps budget x base step (is_of_one_cycle x.kind) refl
        (subst (λ k. InductsWhere (is_of_one_cycle x.kind) c files qs steps budget x k) is g)))

    answers_meant : (before xs : List Check) (ms : List Induction) → checks_of c ≡ before ++ xs
        → AreInducted c files qs steps budget xs ms
        → AllByRecursion IsMeant (lengths_answered folder steps budget xs ms)
    answers_meant before [] [] e are = tt
    answers_meant before [] (m ∷ ms) e are = absurd are
    answers_meant before (x ∷ xs) [] e are = tt
    answers_meant before (x ∷ xs) (m ∷ ms) e are =
        let among : Contains (checks_of c) x =
        subst (λ l. Contains l x) (sym e) (Contains-append_right before (x ∷ xs) x (0, omega arith, refl)) in
        both (length_deliveries folder x.name steps budget m) (lengths_answered folder steps budget xs ms)
        (of_check x m among are.0) (answers_meant (before ++ x ∷ []) xs ms
        (e ∙ sym (append_assoc before (x ∷ []) xs)) are.1)

    begun_meant : (noted : Bool) (skips : List (List ℕ)) (ms : List Induction)
        → AreInducted c files qs steps budget (checks_of c) ms
        → AllByRecursion IsMeant (begun_lengths folder steps budget noted skips (checks_of c) ms)
    begun_meant noted skips ms are =
        both (head noted skips) (lengths_answered folder steps budget (checks_of c) ms) (head_meant noted skips)
        (answers_meant [] (checks_of c) ms refl are)

    whole_meant : (noted : Bool) (skips : List (List ℕ)) (ms : List Induction)
        → AreInducted c files qs steps budget (checks_of c) ms
        → AllByRecursion IsMeant (whole_lengths folder steps budget noted skips (checks_of c) ms)
    whole_meant noted skips ms are =
        let counts = lengths_of ms in
        let last : List ℕ = lengths_line counts (length skips + counts.skipped) in
        both (begun_lengths folder steps budget noted skips (checks_of c) ms) (Line last ∷ [])
        (begun_meant noted skips ms are) (other last refl, tt)

-- ---- reports

module _ (o : Options) (steps : ℕ) (seen : Seen) (events : List Event) (name : List ℕ) where
  abbrev q : Request
  q = length_request o steps

  abbrev asked_for : Option Words
  asked_for = Some (words.Induct o steps)

  abbrev Meant : Type 0
  Meant = HasProved q seen.held events name

  proved : (c : Config) (files : List (List ℕ)) (read : HasRead q seen.held c files)
      → events ≡ has_reads q seen.held c files read → (x : Check)
      → Contains (checks_of c) x → x.name ≡ name → ProvedMeans c files (questions_in q c) x → Meant
  proved c files read heard x among named means = record {
    config = c;
    files = files;
    read = read;
    heard = heard;
    check = x;
    among = among;
    named = named;
    means = means;
  }

  lengths_meant : (status : Status) (report : List Delivery)
      (x : LengthsAre q seen o.outdir steps o.budget status report)
      → events ≡ lengths_reads q seen o.outdir steps o.budget status report x
      → AllByRecursion (IsMeant name steps Meant) report
  lengths_meant status report (lengths.answered w) heard =
      subst (λ l. AllByRecursion (IsMeant name steps Meant) l) (sym w.report_is)
      (whole_meant name steps Meant w.config w.files (questions_in q w.config) o.outdir o.budget
      (proved w.config w.files w.read heard) w.noted w.config.skips w.answers w.inducted)
  lengths_meant status report (lengths.refused w) heard =
      subst (λ l. AllByRecursion (IsMeant name steps Meant) l) (sym w.report_is)
      (other name steps Meant (refusal_line w.refusal) (refused_other name Meant w.refusal), tt)

  report_meant : (report : List Delivery) (is : IsReport asked_for seen report) → Hears asked_for seen report is events
      → AllByRecursion (IsMeant name steps Meant) report
  report_meant report (run.whole status says) heard = lengths_meant status report says heard
  report_meant report (run.begun w) heard =
      subst (λ l. AllByRecursion (IsMeant name steps Meant) l) (sym w.report_is)
      (begun_meant name steps Meant w.config w.files (questions_in q w.config) o.outdir o.budget
      (proved w.config w.files w.read heard) w.noted w.config.skips w.answers w.inducted)
  report_meant report (run.nothing e) heard = subst (λ l. AllByRecursion (IsMeant name steps Meant) l) (sym e) tt

  -- of what came through of a report, a put of the line has its meaning
  found : (report done rest : List Delivery) (is : IsReport asked_for seen report)
      → Hears asked_for seen report is events → done ++ rest ≡ report
      → Contains (puts_of done) (Put (proved_line name steps)) → Meant
  found report done rest is heard order there =
      let all : AllByRecursion (IsMeant name steps Meant) (done ++ rest) =
      subst (λ l. AllByRecursion (IsMeant name steps Meant) l) (sym order) (report_meant report is heard) in
      All-contains (IsMeantPut name steps Meant) (puts_of done) (Put (proved_line name steps))
      (All-from_recursion (IsMeantPut name steps Meant) (puts_of done)
      (puts_meant name steps Meant done (front_meant name steps Meant done rest all))) there refl

module _ (r : Run) (o : Options) (steps : ℕ) (asked : line_of r.words ≡ Some (words.Induct o steps))
    (reads puts : List Event) (heard : r.now.heard ≡ r.before.heard ++ reads)
    (put : r.now.taken ≡ r.before.taken ++ puts) (name : List ℕ)
    (there : Contains puts (Put (proved_line name steps))) where
  abbrev Told : Type 0
  Told = HasProved (length_request o steps) r.before.held reads name

  same_reads : (events : List Event) → r.now.heard ≡ r.before.heard ++ events → events ≡ reads
  same_reads events is = append_cancel_left r.before.heard events reads (sym is ∙ heard)

  told : (report done rest : List Delivery) (is : IsReport (line_of r.words) (seen_in r) report)
      → HeardMore r.before.heard r.now.heard (Hears (line_of r.words) (seen_in r) report is) → done ++ rest ≡ report
      → Pass r.before r.now done → Told
  told report done rest is more order pass =
      let hears : Hears (line_of r.words) (seen_in r) report is reads =
      subst (Hears (line_of r.words) (seen_in r) report is) (same_reads more.events more.behind) more.are in
      let both : (is : IsReport (Some (words.Induct o steps)) (seen_in r) report)
      × Hears (Some (words.Induct o steps)) (seen_in r) report is reads =
      subst (λ line. (is : IsReport line (seen_in r) report) × Hears line (seen_in r) report is reads) asked
      (is, hears) in
      let same : puts ≡ puts_of done =
      append_cancel_left r.before.taken puts (puts_of done) (sym put ∙ pass.taken) in
      found o steps (seen_in r) reads name report done rest both.0 both.1 order
      (subst (λ l. Contains l (Put (proved_line name steps))) same there)

  reported : (status : Status) → Reports (line_of r.words) r status → Told
  reported status a =
      told a.report a.report [] (run.whole status a.says)
      (record {
        events = says_reads (line_of r.words) (seen_in r) status a.report a.says;
        behind = a.heard;
        are = refl;
      }) (append-nil a.report) a.delivered.pass

pub proves : ProofsAreMeant
proves s.Passed r o steps asked a reads puts heard put name there =
    reported r o steps asked reads puts heard put name there s.Passed a
proves s.Failing r o steps asked a reads puts heard put name there =
    reported r o steps asked reads puts heard put name there s.Failing a
proves s.Spent r o steps asked a reads puts heard put name there =
    reported r o steps asked reads puts heard put name there s.Spent a
proves s.Usage r o steps asked a reads puts heard put name there =
    reported r o steps asked reads puts heard put name there s.Usage a
proves s.Config r o steps asked a reads puts heard put name there =
    reported r o steps asked reads puts heard put name there s.Config a
proves s.Source r o steps asked a reads puts heard put name there =
    reported r o steps asked reads puts heard put name there s.Source a
proves s.Absent r o steps asked a reads puts heard put name there =
    reported r o steps asked reads puts heard put name there s.Absent a
proves s.ReadFault r o steps asked a reads puts heard put name there =
    reported r o steps asked reads puts heard put name there s.ReadFault a
proves s.Heavy r o steps asked a reads puts heard put name there =
    reported r o steps asked reads puts heard put name there s.Heavy a
proves s.Refused r o steps asked a reads puts heard put name there =
    reported r o steps asked reads puts heard put name there s.Refused a
proves s.WriteFault r o steps asked a reads puts heard put name there =
    told r o steps asked reads puts heard put name there a.report a.fails.done (a.fails.failing ∷ a.fails.rest) a.is
    a.heard a.fails.order (part_pass r.before r.now a.fails.done a.fails.failing a.fails.part)
proves s.Memory r o steps asked a reads puts heard put name there =
    told r o steps asked reads puts heard put name there a.report a.stops.done a.stops.rest a.is a.heard a.stops.order
    a.stops.delivered.pass
