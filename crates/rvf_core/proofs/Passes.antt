-- A line `pass NAME` that was put is of a check that passes.
use Rattle.std.proofs.Common.{◌≡◌, ℕ, ◌==◌, Bool, true, false, List, [], ◌∷◌, ◌++◌, Some, length, map}
use Rattle.std.proofs.Common.{Option, refl, sym, ap, ◌∙◌, subst, append_assoc, true≢false, arith}
use Rattle.std.proofs.lemmas.List.{append-nil, append_cancel_left}
use Rattle.std.proofs.lemmas.List.Elements.{All-contains, All-from_recursion, Contains-append_right}
use Rattle.std.specs.Prelude.{codes}
use Rattle.std.specs.List.{AllByRecursion, Contains}
use Rattle.fv_base.specs.declared.event.Event.{Event}
use Rattle.fv_base.specs.declared.event.Event.TheVariants.{Put}
use Rattle.vl_text.specs.declared.fault.TextFault.TheVariants as text
use Rattle.ck_cfg.specs.declared.check.Check.{Check}
use Rattle.ck_cfg.specs.declared.config.Config.{Config}
use Rattle.ck_cfg.specs.Checks.{checks_of}
use Rattle.ck_ask.specs.declared.question.Question.{Question}
use Rattle.ck_ask.specs.declared.question.Question.TheVariants as question
use Rattle.ck_design.specs.Retirements.{holds_over}
use Rattle.ck_design.proofs.Found.{found_violates}
use Rattle.rvf_case.specs.Loads.{design_of}
use Rattle.rvf_judge.specs.declared.judged.CertificateTexts.{CertificateTexts}
use Rattle.rvf_judge.specs.declared.judged.Judged.{Judged}
use Rattle.rvf_judge.specs.declared.judged.Judged.TheVariants as judged
use Rattle.rvf_words.specs.declared.line.Line.{Line as Words}
use Rattle.rvf_words.specs.declared.line.Line.TheVariants as words
use Rattle.rvf_words.specs.Line.{line_of}
use Rattle.rvf_case.specs.Loading.{LoadFault}
use Rattle.rvf_case.specs.Loading.load as load
use Rattle.rvf_case.specs.Cases.{Request, Seen}
use Rattle.rvf_case.specs.Hearing.{HeardMore}
use Rattle.rvf_case.specs.declared.refusal.Refusal.{Refusal}
use Rattle.rvf_case.specs.declared.refusal.Refusal.TheVariants as refusal
use Rattle.rvf_checks.specs.Deliveries.{deliveries_in, path}
use Rattle.rvf_report.specs.Lines.{load_line, refusal_line}
use Rattle.rvf_checks.specs.Checked.{answered, begun, head, note_of, skips_of, whole}
use Rattle.rvf_checks.specs.CheckLines.{fail_line, note_line, pass_line, skip_line, spent_line, total_line}
use Rattle.rvf_checks.specs.Counting.{counts_of}
use Rattle.rvf_checks.specs.declared.wording.Wording.TheVariants as wording
use Rattle.rvf_report.specs.Outcome.{Pass, puts_of}
use Rattle.rvf_report.specs.declared.delivery.Delivery.{Delivery}
use Rattle.rvf_report.specs.declared.delivery.Delivery.TheVariants.{File, Line}
use Rattle.rvf_report.specs.declared.status.Status.{Status}
use Rattle.rvf_report.specs.declared.status.Status.TheVariants as s
use Rattle.rvf_core.specs.Checks.{Checks, HasRead, checks_reads, has_reads}
use Rattle.rvf_core.specs.Checks as checks
use Rattle.rvf_core.specs.Pass.{HasPassed, PassMeans}
use Rattle.rvf_core.specs.PassLaw.{PassesAreMeant}
use Rattle.rvf_core.specs.Run.{Hears, IsReport, Reports, Run, says_reads, seen_in}
use Rattle.rvf_core.specs.Tasks.{request}
use Rattle.rvf_core.specs.Run as run
use Rattle.rvf_core.specs.Verdicts.{AreJudged, Judges, check_questions, opts_in, text_of, wants_in}
use Rattle.rvf_core.proofs.Later.{part_pass}

-- ---- lines by their first byte, and names before the end of a line

abbrev pub first : List ℕ → ℕ
first [] = 0
first (b ∷ bs) = b

pub same_line : (a b : List ℕ) → Line a ≡ Line b → a ≡ b
same_line a b e = cc

pub same_put : (a b : List ℕ) → Put a ≡ Put b → a ≡ b
same_put a b e = cc

pub no_file : (name bytes line : List ℕ) → File name bytes ≡ Line line → ⊥
no_file name bytes line e = cc

never_nothing : (xs : List ℕ) (y : ℕ) → [] ≡ xs ++ y ∷ [] → ⊥
never_nothing [] y e = cc
never_nothing (x ∷ xs) y e = cc

same_tail : (x y : ℕ) (xs ys : List ℕ) → x ∷ xs ≡ y ∷ ys → xs ≡ ys
same_tail x y xs ys e = cc

pub same_before : (z : ℕ) (xs ys : List ℕ) → xs ++ z ∷ [] ≡ ys ++ z ∷ [] → xs ≡ ys
same_before z [] [] e = refl
same_before z [] (y ∷ ys) e = absurd (never_nothing ys z (same_tail z y [] (ys ++ z ∷ []) e))
same_before z (x ∷ xs) [] e = absurd (never_nothing xs z (sym (same_tail x z (xs ++ z ∷ []) [] e)))
same_before z (x ∷ xs) (y ∷ ys) e =
    let rest : xs ≡ ys = same_before z xs ys (same_tail x y (xs ++ z ∷ []) (ys ++ z ∷ []) e) in
    let head : x ≡ y = ap first e in
    ap (λ b. b ∷ xs) head ∙ ap (λ bs. y ∷ bs) rest

same_name : (a b : List ℕ) → pass_line a ≡ pass_line b → a ≡ b
same_name a b e =
    same_before 10 a b (append_cancel_left (codes "pass ") (a ++ 10 ∷ []) (b ++ 10 ∷ []) e)

-- ---- what passes

holds_or : (b : Bool) → (b ≡ false → ⊥) → b ≡ true
holds_or true h = refl
holds_or false h = absurd (h refl)

pass_means : (c : Config) (files : List (List ℕ)) (budget cubes : ℕ) (x : Check)
    (texts : CertificateTexts)
    → Judges c files (check_questions c) budget cubes (question.Check x) (judged.Never texts) → PassMeans c files x
pass_means c files budget cubes x texts g =
    let wants = wants_in (text_of c files x.kind) g.reading in
    let opts = opts_in (text_of c files x.kind) g.reading in
    record {
      reading = g.reading;
      reads = g.is.reads;
      one = g.one;
      runs = g.judged.runs;
      holds = λ run is_run assumed.
          holds_or (holds_over run c.nret wants x opts)
          (λ fails. g.judged.never run
          ((found_violates (design_of g.reading.tree.modules) c.nret wants x opts run).1
          (record { is_run = is_run; assumed = assumed; fails = fails })));
    }

module _ (name : List ℕ) (Meant : Type 0) where
  -- if it is the line, it has its meaning
  abbrev IsMeant : Delivery → Type 0
  IsMeant d = d ≡ Line (pass_line name) → Meant

  both : (ds es : List Delivery) → AllByRecursion IsMeant ds → AllByRecursion IsMeant es
      → AllByRecursion IsMeant (ds ++ es)
  both [] es p q = q
  both (d ∷ ds) es p q = (p.0, both ds es p.1 q)

  -- and if it is a put of the line
  abbrev IsMeantPut : Event → Type 0
  IsMeantPut e = e ≡ Put (pass_line name) → Meant

  puts_meant : (ds : List Delivery) → AllByRecursion IsMeant ds → AllByRecursion IsMeantPut (puts_of ds)
  puts_meant [] p = tt
  puts_meant (File at bytes ∷ ds) p = puts_meant ds p.1
  puts_meant (Line bytes ∷ ds) p =
      ((λ e. p.0 (ap (λ l. Line l) (same_put bytes (pass_line name) e))), puts_meant ds p.1)

  front_meant : (ds es : List Delivery) → AllByRecursion IsMeant (ds ++ es) → AllByRecursion IsMeant ds
  front_meant [] es p = tt
  front_meant (d ∷ ds) es p = (p.0, front_meant ds es p.1)

  -- another line
  other : (line : List ℕ) → (first line == 112) ≡ false → IsMeant (Line line)
  other line apart e =
      absurd (true≢false (sym (ap (λ l. first l == 112) (same_line line (pass_line name) e)) ∙ apart))

  file : (at bytes : List ℕ) → IsMeant (File at bytes)
  file at bytes e = absurd (no_file at bytes (pass_line name) e)

  delivered : (folder : List ℕ) (budget : ℕ) (x : List ℕ) (j : Judged)
      → ((texts : CertificateTexts) → j ≡ judged.Never texts → x ≡ name → Meant)
      → AllByRecursion IsMeant (deliveries_in wording.Run folder x budget j)
  delivered folder budget x (judged.Never texts) f =
      let line : IsMeant (Line (pass_line x)) =
      λ e. f texts refl (same_name x name (same_line (pass_line x) (pass_line name) e)) in (
        file (path folder x (codes ".cnf")) texts.clauses,
        (file (path folder x (codes ".lrat")) texts.steps, (line, tt)),
      )
  delivered folder budget x (judged.Found dump) f =
      (file (path folder x (codes ".vcd")) dump, (other (fail_line x) refl, tt))
  delivered folder budget x (judged.Spent texts) f = (
    file (path folder x (codes ".cnf")) texts.clauses,
    (file (path folder x (codes ".lrat")) texts.steps, (other (spent_line x budget) refl, tt)),
  )

  noted_meant : (noted : Bool) → AllByRecursion IsMeant (note_of noted)
  noted_meant true = (other note_line refl, tt)
  noted_meant false = tt

  skips_meant : (skips : List (List ℕ)) → AllByRecursion IsMeant (skips_of skips)
  skips_meant [] = tt
  skips_meant (kind ∷ skips) = (other (skip_line kind) refl, skips_meant skips)

  head_meant : (noted : Bool) (skips : List (List ℕ)) → AllByRecursion IsMeant (head noted skips)
  head_meant noted skips = both (note_of noted) (skips_of skips) (noted_meant noted) (skips_meant skips)

  source_other : (names : List (List ℕ)) (f : LoadFault) → (first (load_line names f) == 112) ≡ false
  source_other names (load.Text (text.Lex f)) = refl
  source_other names (load.Text (text.Prep f)) = refl
  source_other names (load.Text (text.Parse f)) = refl
  source_other names (load.Text text.Memory) = refl
  source_other names (load.Elab f) = refl
  source_other names (load.Flow f) = refl
  source_other names (load.Heavy place number) = refl
  source_other names (load.Port f) = refl
  source_other names load.Memory = refl

  pub refused_other : (f : Refusal) → (first (refusal_line f) == 112) ≡ false
  refused_other (refusal.Absent n) = refl
  refused_other (refusal.Unread n) = refl
  refused_other (refusal.Config f) = refl
  refused_other (refusal.NoCheck n) = refl
  refused_other (refusal.Source f names) = source_other names f
  refused_other (refusal.Heavy n number) = refl
  refused_other refusal.Memory = refl

  module _ (c : Config) (files : List (List ℕ)) (folder : List ℕ) (budget cubes : ℕ)
      (meant : (x : Check) → Contains (checks_of c) x → x.name ≡ name → PassMeans c files x → Meant) where
    -- questions for these checks
    abbrev asked : List Check → List Question
    asked xs = map (λ x. question.Check x) xs

    of_check : (x : Check) (j : Judged) → Contains (checks_of c) x
        → Judges c files (check_questions c) budget cubes (question.Check x) j
        → AllByRecursion IsMeant (deliveries_in wording.Run folder x.name budget j)
    of_check x j among g =
        delivered folder budget x.name j
        (λ texts is named. meant x among named
        (pass_means c files budget cubes x texts
        (subst (λ k. Judges c files (check_questions c) budget cubes (question.Check x) k) is g)))

    answers_meant : (before xs : List Check) (js : List Judged) → checks_of c ≡ before ++ xs
        → AreJudged c files (check_questions c) budget cubes (asked xs) js
        → AllByRecursion IsMeant (answered wording.Run folder budget (asked xs) js)
    answers_meant before [] js e are = tt
    answers_meant before (x ∷ xs) [] e are = tt
    answers_meant before (x ∷ xs) (j ∷ js) e are =
        let among : Contains (checks_of c) x =
        subst (λ l. Contains l x) (sym e) (Contains-append_right before (x ∷ xs) x (0, omega arith, refl)) in
        both (deliveries_in wording.Run folder x.name budget j) (answered wording.Run folder budget (asked xs) js)
        (of_check x j among are.0) (answers_meant (before ++ x ∷ []) xs js
        (e ∙ sym (append_assoc before (x ∷ []) xs)) are.1)

    begun_meant : (noted : Bool) (skips : List (List ℕ)) (js : List Judged)
        → AreJudged c files (check_questions c) budget cubes (check_questions c) js
        → AllByRecursion IsMeant (begun wording.Run folder budget noted skips (check_questions c) js)
    begun_meant noted skips js are =
        both (head noted skips) (answered wording.Run folder budget (check_questions c) js) (head_meant noted skips)
        (answers_meant [] (checks_of c) js refl are)

    whole_meant : (noted : Bool) (skips : List (List ℕ)) (js : List Judged)
        → AreJudged c files (check_questions c) budget cubes (check_questions c) js
        → AllByRecursion IsMeant (whole wording.Run folder budget noted skips (check_questions c) js)
    whole_meant noted skips js are =
        both (begun wording.Run folder budget noted skips (check_questions c) js)
        (Line (total_line (counts_of (check_questions c) js) (length skips)) ∷ []) (begun_meant noted skips js are)
        (other (total_line (counts_of (check_questions c) js) (length skips)) refl, tt)

-- ---- reports

module _ (cfg outdir core basedir : List ℕ) (budget jobs cubes : ℕ) (seen : Seen) (events : List Event)
    (name : List ℕ) where
  abbrev q : Request
  q = request cfg core basedir

  abbrev asked_for : Option Words
  asked_for = Some (words.Run cfg outdir core basedir budget jobs cubes)

  abbrev Meant : Type 0
  Meant = HasPassed q seen.held events name

  passed : (c : Config) (files : List (List ℕ)) (read : HasRead q seen.held c files)
      → events ≡ has_reads q seen.held c files read → (x : Check)
      → Contains (checks_of c) x → x.name ≡ name → PassMeans c files x → Meant
  passed c files read heard x among named means = record {
    config = c;
    files = files;
    read = read;
    heard = heard;
    check = x;
    among = among;
    named = named;
    means = means;
  }

  checks_meant : (status : Status) (report : List Delivery)
      (x : Checks q seen wording.Run outdir budget cubes status report)
      → events ≡ checks_reads q seen wording.Run outdir budget cubes status report x
      → AllByRecursion (IsMeant name Meant) report
  checks_meant status report (checks.judged w) heard =
      subst (λ l. AllByRecursion (IsMeant name Meant) l) (sym w.report_is)
      (whole_meant name Meant w.config w.files outdir budget cubes (passed w.config w.files w.read heard) w.noted
      w.config.skips w.answers w.judged)
  checks_meant status report (checks.refused w) heard =
      subst (λ l. AllByRecursion (IsMeant name Meant) l) (sym w.report_is)
      (other name Meant (refusal_line w.refusal) (refused_other name Meant w.refusal), tt)

  report_meant : (report : List Delivery) (is : IsReport asked_for seen report) → Hears asked_for seen report is events
      → AllByRecursion (IsMeant name Meant) report
  report_meant report (run.whole status says) heard = checks_meant status report says heard
  report_meant report (run.begun w) heard =
      subst (λ l. AllByRecursion (IsMeant name Meant) l) (sym w.report_is)
      (begun_meant name Meant w.config w.files outdir budget cubes (passed w.config w.files w.read heard) w.noted
      w.config.skips w.answers w.judged)
  report_meant report (run.nothing e) heard = subst (λ l. AllByRecursion (IsMeant name Meant) l) (sym e) tt

  -- of what came through of a report, a put of the line has its meaning
  found : (report done rest : List Delivery) (is : IsReport asked_for seen report)
      → Hears asked_for seen report is events → done ++ rest ≡ report
      → Contains (puts_of done) (Put (pass_line name)) → Meant
  found report done rest is heard order there =
      let all : AllByRecursion (IsMeant name Meant) (done ++ rest) =
      subst (λ l. AllByRecursion (IsMeant name Meant) l) (sym order) (report_meant report is heard) in
      All-contains (IsMeantPut name Meant) (puts_of done) (Put (pass_line name))
      (All-from_recursion (IsMeantPut name Meant) (puts_of done)
      (puts_meant name Meant done (front_meant name Meant done rest all))) there refl

module _ (r : Run) (cfg outdir core basedir : List ℕ) (budget jobs cubes : ℕ)
    (asked : line_of r.words ≡ Some (words.Run cfg outdir core basedir budget jobs cubes)) (reads puts : List Event)
    (heard : r.now.heard ≡ r.before.heard ++ reads) (put : r.now.taken ≡ r.before.taken ++ puts) (name : List ℕ)
    (there : Contains puts (Put (pass_line name))) where
  abbrev Told : Type 0
  Told = HasPassed (request cfg core basedir) r.before.held reads name

  same_reads : (events : List Event) → r.now.heard ≡ r.before.heard ++ events → events ≡ reads
  same_reads events is = append_cancel_left r.before.heard events reads (sym is ∙ heard)

  told : (report done rest : List Delivery) (is : IsReport (line_of r.words) (seen_in r) report)
      → HeardMore r.before.heard r.now.heard (Hears (line_of r.words) (seen_in r) report is) → done ++ rest ≡ report
      → Pass r.before r.now done → Told
  told report done rest is more order pass =
      let hears : Hears (line_of r.words) (seen_in r) report is reads =
      subst (Hears (line_of r.words) (seen_in r) report is) (same_reads more.events more.behind) more.are in
      let both : (is : IsReport (Some (words.Run cfg outdir core basedir budget jobs cubes)) (seen_in r) report)
      × Hears (Some (words.Run cfg outdir core basedir budget jobs cubes)) (seen_in r) report is reads =
      subst (λ line. (is : IsReport line (seen_in r) report) × Hears line (seen_in r) report is reads) asked
      (is, hears) in
      let same : puts ≡ puts_of done =
      append_cancel_left r.before.taken puts (puts_of done) (sym put ∙ pass.taken) in
      found cfg outdir core basedir budget jobs cubes (seen_in r) reads name report done rest both.0 both.1 order
      (subst (λ l. Contains l (Put (pass_line name))) same there)

  reported : (status : Status) → Reports (line_of r.words) r status → Told
  reported status a =
      told a.report a.report [] (run.whole status a.says)
      (record {
        events = says_reads (line_of r.words) (seen_in r) status a.report a.says;
        behind = a.heard;
        are = refl;
      }) (append-nil a.report) a.delivered.pass

pub passes : PassesAreMeant
passes s.Passed r cfg outdir core basedir budget jobs cubes asked a reads puts heard put name there =
    reported r cfg outdir core basedir budget jobs cubes asked reads puts heard put name there s.Passed a
passes s.Failing r cfg outdir core basedir budget jobs cubes asked a reads puts heard put name there =
    reported r cfg outdir core basedir budget jobs cubes asked reads puts heard put name there s.Failing a
passes s.Spent r cfg outdir core basedir budget jobs cubes asked a reads puts heard put name there =
    reported r cfg outdir core basedir budget jobs cubes asked reads puts heard put name there s.Spent a
passes s.Usage r cfg outdir core basedir budget jobs cubes asked a reads puts heard put name there =
    reported r cfg outdir core basedir budget jobs cubes asked reads puts heard put name there s.Usage a
passes s.Config r cfg outdir core basedir budget jobs cubes asked a reads puts heard put name there =
    reported r cfg outdir core basedir budget jobs cubes asked reads puts heard put name there s.Config a
passes s.Source r cfg outdir core basedir budget jobs cubes asked a reads puts heard put name there =
    reported r cfg outdir core basedir budget jobs cubes asked reads puts heard put name there s.Source a
passes s.Absent r cfg outdir core basedir budget jobs cubes asked a reads puts heard put name there =
    reported r cfg outdir core basedir budget jobs cubes asked reads puts heard put name there s.Absent a
passes s.ReadFault r cfg outdir core basedir budget jobs cubes asked a reads puts heard put name there =
    reported r cfg outdir core basedir budget jobs cubes asked reads puts heard put name there s.ReadFault a
passes s.Heavy r cfg outdir core basedir budget jobs cubes asked a reads puts heard put name there =
    reported r cfg outdir core basedir budget jobs cubes asked reads puts heard put name there s.Heavy a
passes s.Refused r cfg outdir core basedir budget jobs cubes asked a reads puts heard put name there =
    reported r cfg outdir core basedir budget jobs cubes asked reads puts heard put name there s.Refused a
passes s.WriteFault r cfg outdir core basedir budget jobs cubes asked a reads puts heard put name there =
    told r cfg outdir core basedir budget jobs cubes asked reads puts heard put name there a.report a.fails.done
    (a.fails.failing ∷ a.fails.rest) a.is a.heard a.fails.order
    (part_pass r.before r.now a.fails.done a.fails.failing a.fails.part)
passes s.Memory r cfg outdir core basedir budget jobs cubes asked a reads puts heard put name there =
    told r cfg outdir core basedir budget jobs cubes asked reads puts heard put name there a.report a.stops.done
    a.stops.rest a.is a.heard a.stops.order a.stops.delivered.pass
