-- From what was made of the words to the end of a run.
use Rattle.std.proofs.Common.{◌≡◌, ℕ, ◌≤◌, List, [], ◌∷◌, ◌++◌, Option, Some, None, Result, IfOk, refl, sym, ap, ◌∙◌}
use Rattle.std.proofs.Common.{arith, subst}
use Rattle.std.proofs.lemmas.List.{append-nil}
use Rattle.fv_base.specs.Outside.{SameFiles}
use Rattle.fv_base.specs.declared.event.Event.{Event}
use Rattle.fv_text.specs.declared.memory.Memory.{Memory}
use Rattle.rvf_words.specs.Line.{line_of}
use Rattle.rvf_words.specs.declared.line.Line.{Line as Words}
use Rattle.rvf_words.specs.declared.line.Line.TheVariants as words
use Rattle.rvf_words.specs.declared.line.Options.{Options}
use Rattle.rvf_case.specs.Hearing.{AreReadOn, HeardMore}
use Rattle.rvf_case.specs.Hearing as hearing
use Rattle.rvf_report.specs.Outcome.{Outside}
use Rattle.rvf_report.specs.declared.status.Status.{Status}
use Rattle.rvf_report.specs.declared.status.Status.TheVariants as s
use Rattle.rvf_report.proofs.Deliveries.{Delivers-nothing, SameFiles-refl}
use Rattle.rvf_core.specs.Certificate.{one_line}
use Rattle.rvf_core.specs.Certifies.{Certifies, certifies_reads}
use Rattle.rvf_core.specs.Checks.{refused_status}
use Rattle.rvf_core.specs.Encodes.{Encodes, encodes_reads, graph_line}
use Rattle.rvf_core.specs.Exports.{Exports, check_request, exports_reads}
use Rattle.rvf_core.specs.Lists.{Lists, lists_reads}
use Rattle.rvf_core.specs.Puts.{Puts}
use Rattle.rvf_core.specs.Run.{Answers, Ends, IsExact, IsReadOn, Run, none_failed, usage_line}
use Rattle.rvf_core.specs.Run as run
use Rattle.rvf_core.specs.Steps.{ExportsBy, HaveCauses, HaveStatus, Leaves, LeavesGraph}
use Rattle.rvf_core.specs.Tasks.{task_asked, task_of}
use Rattle.rvf_core.specs.declared.report.Report.{Report}
use Rattle.rvf_core.proofs.Asking.{no_statuses}
use Rattle.rvf_core.proofs.Endings.{Fits, IsOwn, ends_put}
use Rattle.rvf_core.proofs.Exact.{IsExact-answers}
use Rattle.rvf_core.proofs.FromChecks.{seen_from}
use Rattle.rvf_core.proofs.FromFiles.{if_ok, own_certified, own_listed}
use Rattle.rvf_core.proofs.FromGraphs.{own_encoded}
use Rattle.rvf_core.proofs.ExportLaws.{exports_later, exports_reads_later, own_exported}
use Rattle.rvf_core.proofs.GraphMade.{file_left}
use Rattle.rvf_core.proofs.Graphs.{graph_left, nothing_encoded}
use Rattle.rvf_core.proofs.Halves.{nothing_written}
use Rattle.rvf_core.proofs.Later.{IsEarlier, certifies_later, certifies_reads_later, lists_later, lists_reads_later}
use Rattle.rvf_core.proofs.Later.{encodes_later, encodes_reads_later}
use Rattle.rvf_core.proofs.Statuses.{comes_Memory}

module _ (asked : List (List ℕ)) (before middle now : Outside) (held : SameFiles before.held middle.held)
    (sent : middle.sent ≡ before.sent) (written : middle.written ≡ before.written)
    (taken : middle.taken ≡ before.taken) (faults : before.faults ≤ middle.faults)
    (out_faults : before.out_faults ≤ middle.out_faults) (more_misses : middle.misses ≤ now.misses)
    (more_faults : middle.faults ≤ now.faults) (same : now.heard ≡ middle.heard) where
  abbrev the_run : Run
  the_run = record { words = asked; before = before; now = now }

  earlier : IsEarlier before middle
  earlier = record {
    held = held;
    sent = sent;
    written = written;
    taken = taken;
    faults = faults;
    out_faults = out_faults;
  }

  -- what was read by then was read in the end
  front : (Is : List Event → Type 0) → HeardMore before.heard middle.heard Is → HeardMore before.heard now.heard Is
  front Is h = record { events = h.events; behind = same ∙ h.behind; are = h.are }

  heard_later : (events later : List Event) → middle.heard ≡ before.heard ++ events → later ≡ events
      → now.heard ≡ before.heard ++ later
  heard_later events later heard is = same ∙ heard ∙ ap (λ l. before.heard ++ l) (sym is)

  abbrev pub ListsBy : List ℕ → Report → Type 0
  ListsBy cfg report =
      (says : Lists cfg (seen_from before middle) report.status report.deliveries)
      × (middle.heard
      ≡ before.heard ++ lists_reads cfg (seen_from before middle) report.status report.deliveries says)

  pub names_end : (cfg : List ℕ) (made : Result Report Memory) (status : Status) → IfOk made (ListsBy cfg)
      → HeardMore before.heard middle.heard (AreReadOn (cfg ∷ []))
      → Puts made status middle now → Ends (Some (words.List cfg)) the_run status
  names_end cfg made status says on put =
      ends_put (Some (words.List cfg)) the_run middle earlier made status
      (if_ok (ListsBy cfg) (Fits (Some (words.List cfg)) the_run middle earlier) (λ report x. (
        lists_later (seen_from before middle) now.misses now.faults more_misses more_faults cfg report.status
            report.deliveries x.0,
        heard_later (lists_reads cfg (seen_from before middle) report.status report.deliveries x.0) _ x.1
            (lists_reads_later (seen_from before middle) now.misses now.faults more_misses more_faults cfg report.status
            report.deliveries x.0),
        own_listed cfg (seen_from before middle) report.status report.deliveries x.0,
      )) made says) (front (AreReadOn (cfg ∷ [])) on) put

  abbrev pub CertifiesBy : List ℕ → List ℕ → Report → Type 0
  CertifiesBy cnf proof report =
      (says : Certifies cnf proof (seen_from before middle) report.status report.deliveries)
      × (middle.heard
      ≡ before.heard ++ certifies_reads cnf proof (seen_from before middle) report.status report.deliveries says)

  pub certificate_ends : (cnf proof : List ℕ) (made : Result Report Memory) (status : Status)
      → IfOk made (CertifiesBy cnf proof)
      → HeardMore before.heard middle.heard (AreReadOn (cnf ∷ (proof ∷ [])))
      → Puts made status middle now → Ends (Some (words.Lrat cnf proof)) the_run status
  certificate_ends cnf proof made status says on put =
      ends_put (Some (words.Lrat cnf proof)) the_run middle earlier made status
      (if_ok (CertifiesBy cnf proof) (Fits (Some (words.Lrat cnf proof)) the_run middle earlier) (λ report x. (
        certifies_later (seen_from before middle) now.misses now.faults more_misses more_faults cnf proof report.status
            report.deliveries x.0,
        heard_later (certifies_reads cnf proof (seen_from before middle) report.status report.deliveries x.0) _ x.1
            (certifies_reads_later (seen_from before middle) now.misses now.faults more_misses more_faults cnf proof
            report.status report.deliveries x.0),
        own_certified cnf proof (seen_from before middle) report.status report.deliveries x.0,
      )) made says) (front (AreReadOn (cnf ∷ (proof ∷ []))) on) put

  abbrev pub EncodesBy : List ℕ → List ℕ → Report → Type 0
  EncodesBy graph cnf report =
      (says : Encodes graph cnf (seen_from before middle) report.status report.deliveries)
      × (middle.heard
      ≡ before.heard ++ encodes_reads graph cnf (seen_from before middle) report.status report.deliveries says)

  pub graph_ends : (graph cnf : List ℕ) (made : Result Report Memory) (status : Status)
      → IfOk made (EncodesBy graph cnf)
      → HeardMore before.heard middle.heard (AreReadOn (graph ∷ []))
      → Puts made status middle now → Ends (Some (words.Fromaig graph cnf)) the_run status
  graph_ends graph cnf made status says on put =
      ends_put (Some (words.Fromaig graph cnf)) the_run middle earlier made status
      (if_ok (EncodesBy graph cnf) (Fits (Some (words.Fromaig graph cnf)) the_run middle earlier) (λ report x. (
        encodes_later (seen_from before middle) now.misses now.faults more_misses more_faults graph cnf report.status
            report.deliveries x.0,
        heard_later (encodes_reads graph cnf (seen_from before middle) report.status report.deliveries x.0) _ x.1
            (encodes_reads_later (seen_from before middle) now.misses now.faults more_misses more_faults graph cnf
            report.status report.deliveries x.0),
        own_encoded graph cnf (seen_from before middle) report.status report.deliveries x.0,
      )) made says) (front (AreReadOn (graph ∷ [])) on) put

  -- want of memory left the file or the line
  pub graph_leaves : (graph cnf : List ℕ) (made : Result Report Memory) (status : Status)
      → IfOk made (EncodesBy graph cnf) → Puts made status middle now → LeavesGraph cnf the_run status
  graph_leaves graph cnf made status says put =
      graph_left before middle now earlier graph cnf (seen_from before middle) made status
      (if_ok (EncodesBy graph cnf)
      (λ (report : Report). Encodes graph cnf (seen_from before middle) report.status report.deliveries)
      (λ report x. x.0) made says) put

  -- and the graph of a check
  module _ (cfg name file core basedir : List ℕ) (made : Result Report Memory) (status : Status)
      (says : IfOk made (ExportsBy cfg name file core basedir before.heard middle.heard (seen_from before middle)))
      (put : Puts made status middle now) where
    abbrev Is : Report → Type 0
    Is report = ExportsBy cfg name file core basedir before.heard middle.heard (seen_from before middle) report

    pub export_ends : HeardMore before.heard middle.heard (hearing.IsReadOn (check_request cfg name core basedir))
        → Ends (Some (words.Toaig cfg name file core basedir)) the_run status
    export_ends on =
        ends_put (Some (words.Toaig cfg name file core basedir)) the_run middle earlier made status
        (if_ok Is (Fits (Some (words.Toaig cfg name file core basedir)) the_run middle earlier) (λ report x. (
          exports_later cfg name file core basedir (seen_from before middle) now.misses now.faults more_misses
              more_faults report.status report.deliveries x.0,
          heard_later (exports_reads cfg name file core basedir (seen_from before middle) report.status report.deliveries x.0)
              _ x.1
              (exports_reads_later cfg name file core basedir (seen_from before middle) now.misses now.faults
              more_misses more_faults report.status report.deliveries x.0),
          own_exported cfg name file core basedir (seen_from before middle) report.status report.deliveries x.0,
        )) made says) (front (hearing.IsReadOn (check_request cfg name core basedir)) on) put

    -- want of memory left the file or the line
    pub export_leaves : HaveCauses (check_request cfg name core basedir) the_run status
        → HaveStatus (Some (words.Toaig cfg name file core basedir)) the_run status
    export_leaves causes =
        no_statuses (Some (words.Toaig cfg name file core basedir)) the_run status refl (record {
          causes = causes;
          leaves = file_left cfg name file core basedir before middle now earlier (seen_from before middle) made status
              (if_ok Is (λ (report : Report). Exports cfg name file core basedir (seen_from before middle) report.status
              report.deliveries) (λ report x. x.0) made says) put;
        })

-- nothing happened yet
pub at_once : (before : Outside) → IsEarlier before before
at_once before = record {
  held = SameFiles-refl before.held;
  sent = refl;
  written = refl;
  taken = refl;
  faults = omega arith;
  out_faults = omega arith;
}

-- nothing was read
pub none_heard : (before now : List Event) → now ≡ before → now ≡ before ++ []
none_heard before now same = same ∙ sym (append-nil before)

-- words that aren't understood
pub misuse_ends : (asked : List (List ℕ)) (before now : Outside) (made : Result Report Memory) (status : Status)
    → now.heard ≡ before.heard
    → IfOk made (λ report. report ≡ one_line s.Usage usage_line) → Puts made status before now
    → Ends None (record { words = asked; before = before; now = now }) status
misuse_ends asked before now made status same says put =
    let r : Run = record { words = asked; before = before; now = now } in
    ends_put None r before (at_once before) made status
    (if_ok (λ (report : Report). report ≡ one_line s.Usage usage_line) (Fits None r before (at_once before))
    (λ report x. (
      record {
        status_is = ap (λ (f : Report). f.status) x;
        report_is = ap (λ (f : Report). f.deliveries) x;
      },
      none_heard before.heard now.heard same,
      subst IsOwn (sym (ap (λ (f : Report). f.status) x)) tt,
    )) made says) (record { events = []; behind = none_heard before.heard now.heard same; are = refl }) put

none_on : (line : Option Words) → IsReadOn line []
none_on None = refl
none_on (Some (words.Run cfg outdir core basedir budget jobs cubes)) = tt
none_on (Some (words.List cfg)) = tt
none_on (Some (words.Lrat cnf proof)) = tt
none_on (Some (words.Bench size)) = refl
none_on (Some (words.Cover o)) = tt
none_on (Some (words.Zb o)) = tt
none_on (Some (words.Induct o steps)) = tt
none_on (Some (words.Toaig cfg check file core basedir)) = tt
none_on (Some (words.Fromaig aag cnf)) = tt

-- memory was wanted at once
pub memory_ends : (line : Option Words) (asked : List (List ℕ)) (before : Outside)
    → Ends line (record { words = asked; before = before; now = before }) s.Memory
memory_ends line asked before = record {
  report = [];
  is = run.nothing refl;
  heard = record { events = []; behind = none_heard before.heard before.heard refl; are = none_on line };
  stops = record { done = []; rest = []; order = refl; delivered = Delivers-nothing before };
}

-- and nothing was written
none_left : (line : Option Words) (r : Run) → r.now.written ≡ r.before.written → Leaves line r s.Memory
none_left None r same = tt
none_left (Some (words.Run cfg outdir core basedir budget jobs cubes)) r same = tt
none_left (Some (words.List cfg)) r same = tt
none_left (Some (words.Lrat cnf proof)) r same = tt
none_left (Some (words.Bench size)) r same = tt
none_left (Some (words.Cover o)) r same = tt
none_left (Some (words.Zb o)) r same = tt
none_left (Some (words.Induct o steps)) r same = λ names told no_fault f cause. comes_Memory (refused_status f)
none_left (Some (words.Toaig cfg check file core basedir)) r same = record {
  causes = λ names told no_fault f cause. comes_Memory (refused_status f);
  leaves = λ is t d. nothing_written r.before r.now file t.text (graph_line t.inputs t.gates) d same;
}
none_left (Some (words.Fromaig aag cnf)) r same = λ is said text d. nothing_encoded r.before r.now cnf said text same d

pub memory_statuses : (line : Option Words) (r : Run) → r.now.written ≡ r.before.written
    → HaveStatus line r s.Memory
memory_statuses line r same = record {
  causes = λ t is names told no_fault f cause. comes_Memory (refused_status f);
  leaves = none_left line r same;
}

pub line_ends : (found line : Option Words) (r : Run) (status : Status) → found ≡ line → Ends found r status
    → Ends line r status
line_ends found line r status e x = subst (λ l. Ends l r status) e x

pub line_statuses : (found line : Option Words) (r : Run) (status : Status) → found ≡ line
    → HaveStatus found r status → HaveStatus line r status
line_statuses found line r status e x = subst (λ l. HaveStatus l r status) e x

pub none_statuses : (line : Option Words) (r : Run) (status : Status) → None ≡ line → HaveStatus line r status
none_statuses line r status e =
    no_statuses line r status (ap task_asked (sym e)) (subst (λ l. Leaves l r status) e tt)

-- so want of memory may be answered whatever the words ask for
pub memory_at_once : (asked : List (List ℕ)) (before : Outside)
    → Answers s.Memory (record { words = asked; before = before; now = before })
    × IsExact s.Memory (record { words = asked; before = before; now = before })
memory_at_once asked before =
    let r : Run = record { words = asked; before = before; now = before } in
    let a : Answers s.Memory r = memory_ends (line_of asked) asked before in
    (a, IsExact-answers r s.Memory a (memory_statuses (line_of asked) r refl) (refl, none_failed refl))

-- ---- the line that was read, in other words

module _ (l : Words) (r : Run) (status : Status) where
  pub list_ends : (cfg a : List ℕ) → l ≡ words.List cfg → a ≡ cfg → Ends (Some (words.List a)) r status
      → Ends (Some l) r status
  list_ends cfg a e p x =
      subst (λ line. Ends (Some line) r status) (ap (λ z. words.List z) p ∙ sym e) x

  pub list_statuses : (cfg : List ℕ) → l ≡ words.List cfg → HaveStatus (Some l) r status
  list_statuses cfg e =
      no_statuses (Some l) r status (ap task_of e) (subst (λ line. Leaves (Some line) r status) (sym e) tt)

  pub lrat_ends : (cnf proof a b : List ℕ) → l ≡ words.Lrat cnf proof → a ≡ cnf → b ≡ proof
      → Ends (Some (words.Lrat a b)) r status → Ends (Some l) r status
  lrat_ends cnf proof a b e p q x =
      subst (λ line. Ends (Some line) r status)
      (ap (λ z. words.Lrat z b) p ∙ ap (λ z. words.Lrat cnf z) q ∙ sym e) x

  pub lrat_statuses : (cnf proof : List ℕ) → l ≡ words.Lrat cnf proof → HaveStatus (Some l) r status
  lrat_statuses cnf proof e =
      no_statuses (Some l) r status (ap task_of e) (subst (λ line. Leaves (Some line) r status) (sym e) tt)

  pub bench_ends : (size : ℕ) → l ≡ words.Bench size → Ends (Some (words.Bench size)) r status → Ends (Some l) r status
  bench_ends size e x = subst (λ line. Ends (Some line) r status) (sym e) x

  pub bench_statuses : (size : ℕ) → l ≡ words.Bench size → HaveStatus (Some l) r status
  bench_statuses size e =
      no_statuses (Some l) r status (ap task_of e) (subst (λ line. Leaves (Some line) r status) (sym e) tt)

  pub fromaig_ends : (graph cnf a b : List ℕ) → l ≡ words.Fromaig graph cnf → a ≡ graph → b ≡ cnf
      → Ends (Some (words.Fromaig a b)) r status → Ends (Some l) r status
  fromaig_ends graph cnf a b e p q x =
      subst (λ line. Ends (Some line) r status)
      (ap (λ z. words.Fromaig z b) p ∙ ap (λ z. words.Fromaig graph z) q ∙ sym e) x

  pub fromaig_statuses : (graph cnf b : List ℕ) → l ≡ words.Fromaig graph cnf → b ≡ cnf → LeavesGraph b r status
      → HaveStatus (Some l) r status
  fromaig_statuses graph cnf b e q left =
      no_statuses (Some l) r status (ap task_of e)
      (subst (λ line. Leaves (Some line) r status) (ap (λ z. words.Fromaig graph z) q ∙ sym e) left)

  module _ (w : Words) (o : Options) (steps : ℕ) (is : l ≡ words.Induct o steps) (seen : w ≡ words.Induct o steps) where
    pub induct_ends : Ends (Some w) r status → Ends (Some l) r status
    induct_ends x = subst (λ line. Ends (Some line) r status) (seen ∙ sym is) x

    pub induct_statuses : HaveStatus (Some w) r status → HaveStatus (Some l) r status
    induct_statuses x = subst (λ line. HaveStatus (Some line) r status) (seen ∙ sym is) x

  module _ (cfg check file core basedir a b d e f : List ℕ) (is : l ≡ words.Toaig cfg check file core basedir)
      (p : a ≡ cfg) (q : b ≡ check) (u : d ≡ file) (v : e ≡ core) (w : f ≡ basedir) where
    seen_line : words.Toaig a b d e f ≡ l
    seen_line =
        ap (λ z. words.Toaig z b d e f) p ∙ ap (λ z. words.Toaig cfg z d e f) q
        ∙ ap (λ z. words.Toaig cfg check z e f) u ∙ ap (λ z. words.Toaig cfg check file z f) v
        ∙ ap (λ z. words.Toaig cfg check file core z) w ∙ sym is

    pub toaig_ends : Ends (Some (words.Toaig a b d e f)) r status → Ends (Some l) r status
    toaig_ends x = subst (λ line. Ends (Some line) r status) seen_line x

    pub toaig_statuses : HaveStatus (Some (words.Toaig a b d e f)) r status → HaveStatus (Some l) r status
    toaig_statuses x = subst (λ line. HaveStatus (Some line) r status) seen_line x
