-- From the files of a configuration to the end of a run over its questions.
use Rattle.std.proofs.Common.{◌≡◌, ℕ, ◌≤◌, false, List, ◌++◌, Some, Result, Ok, Err, IfOk, sym, ap, ◌∙◌}
use Rattle.std.proofs.Common.{subst, arith}
use Rattle.fv_base.specs.Outside.{Names, SameFiles, Told}
use Rattle.fv_base.specs.declared.event.Event.{Event}
use Rattle.fv_text.specs.declared.memory.Memory.{Memory}
use Rattle.rvf_judge.specs.Sources.{JudgementsAreTheSources}
use Rattle.rvf_words.specs.declared.line.Line.{Line as Words}
use Rattle.rvf_case.specs.Cases.{Alike, Comes, IsCase, IsCause, IsReady, Request, Seen, names_in}
use Rattle.rvf_case.specs.Hearing.{HeardMore, Hears, all_gave, cause_reads}
use Rattle.rvf_case.specs.declared.case.Case.{Case}
use Rattle.rvf_case.specs.declared.refusal.Refusal.{Refusal}
use Rattle.rvf_case.specs.declared.refusal.Refusal.TheVariants as refusal
use Rattle.rvf_case.proofs.Fronts.{read_on}
use Rattle.rvf_report.specs.Outcome.{Outside}
use Rattle.rvf_report.specs.Reports.{Concludes}
use Rattle.rvf_checks.specs.Checked.{plan_of}
use Rattle.rvf_checks.specs.Known.{known_of}
use Rattle.rvf_report.specs.declared.status.Status.{Status}
use Rattle.rvf_core.specs.Checks.{has_reads}
use Rattle.rvf_core.specs.Checks as checks
use Rattle.rvf_core.specs.Puts.{Puts}
use Rattle.rvf_core.specs.Run.{Answered, Ends, Run, rose, seen_in}
use Rattle.rvf_core.specs.Steps.{HaveCauses, is_memory}
use Rattle.rvf_core.specs.Tasks.{Task, task_of}
use Rattle.rvf_core.specs.declared.report.Report.{Report}
use Rattle.rvf_core.proofs.Apart.{true_false}
use Rattle.rvf_core.proofs.Asking.{begins_asked, read_asked, says_asked}
use Rattle.rvf_core.proofs.Endings.{Fits, IsOwn, ends_concluded, ends_put}
use Rattle.rvf_core.proofs.Later.{IsEarlier, cause_later, reads_later}
use Rattle.rvf_core.proofs.FromFiles.{if_ok, own_refusal}
use Rattle.rvf_core.proofs.Refusals.{IsLineOf, cause_earlier, right_case, right_refusal, seen_of}

pub le_itself : (n : ℕ) → n ≤ n
le_itself n = omega arith

-- what a call saw that began and ended so
abbrev pub seen_from : Outside → Outside → Seen
seen_from before now = record {
  held = before.held;
  misses = before.misses;
  misses_now = now.misses;
  faults = before.faults;
  faults_now = now.faults;
}

abbrev pub cause_of : (q : Request) (seen : Seen) (f : Refusal) → is_memory f ≡ false → Comes q seen (Err f)
    → IsCause q seen f
cause_of q seen (refusal.Absent name) e x = x
cause_of q seen (refusal.Unread name) e x = x
cause_of q seen (refusal.Config f) e x = x
cause_of q seen (refusal.NoCheck name) e x = x
cause_of q seen (refusal.Source f names) e x = x
cause_of q seen (refusal.Heavy name number) e x = x
cause_of q seen refusal.Memory e x = absurd (true_false e)

-- what was read is what the cause speaks of
pub hears_cause : (q : Request) (seen : Seen) (f : Refusal) (e : is_memory f ≡ false) (x : Comes q seen (Err f))
    (events : List Event) → Hears q seen (Err f) x events → events ≡ cause_reads q seen f (cause_of q seen f e x)
hears_cause q seen (refusal.Absent name) e x events h = h
hears_cause q seen (refusal.Unread name) e x events h = h
hears_cause q seen (refusal.Config f) e x events h = h
hears_cause q seen (refusal.NoCheck name) e x events h = h
hears_cause q seen (refusal.Source f names) e x events h = h
hears_cause q seen (refusal.Heavy name number) e x events h = h
hears_cause q seen refusal.Memory e x events h = absurd (true_false e)

module _ (t : Task) (asked : List (List ℕ)) (before middle now : Outside)
    (held : SameFiles before.held middle.held) (sent : middle.sent ≡ before.sent)
    (written : middle.written ≡ before.written)
    (taken : middle.taken ≡ before.taken) (faults : before.faults ≤ middle.faults)
    (out_faults : before.out_faults ≤ middle.out_faults) where
  abbrev q : Request
  q = t.request

  abbrev the_run : Run
  the_run = record { words = asked; before = before; now = now }

  earlier : IsEarlier before middle
  earlier = record {
    held = held;
    sent = sent;
    written = written;
    taken = taken;
    faults = faults;
    out_faults = out_faults;
  }

  pub case_ends : (line : Words) → task_of line ≡ Some t → JudgementsAreTheSources (known_of t.cubes) → (case : Case)
      (status : Status) (is : IsCase q before.held case)
      → HeardMore before.heard middle.heard
      (λ events. events ≡ all_gave q is.configured.bytes (names_in q case.config) is.files)
      → now.heard ≡ middle.heard
      → IsReady case → Concludes (plan_of (known_of t.cubes) case t.wording t.folder t.budget) status middle now
      → Ends (Some line) the_run status
  case_ends line is_task law case status is heard same ready x =
      ends_concluded t.cubes law q before.held t.wording t.folder t.budget case is ready (Some line) the_run
      (λ d fs h. has_reads q before.held d fs h)
      (λ told report w. (says_asked t (seen_in the_run) line told report is_task (checks.judged w)).0)
      (λ report b. (begins_asked t (seen_in the_run) line report is_task b).0)
      (λ told report w. (says_asked t (seen_in the_run) line told report is_task (checks.judged w)).1)
      (λ report b. (begins_asked t (seen_in the_run) line report is_task b).1)
      (same ∙ heard.behind ∙ ap (λ l. before.heard ++ l) heard.are) middle earlier status x

  -- what was read for a refusal
  abbrev IsHeardFor : (f : Refusal) → Comes q (seen_from before middle) (Err f) → Type 0
  IsHeardFor f came = HeardMore before.heard middle.heard (Hears q (seen_from before middle) (Err f) came)

  -- the cause of a refusal stands as the run ends
  abbrev refused_in : (f : Refusal) (report : Report) → Comes q (seen_from before middle) (Err f)
      → middle.misses ≤ now.misses → middle.faults ≤ now.faults → IsLineOf f report
      → Answered t (seen_in the_run) report.status report.deliveries
  refused_in f report came misses more p =
      checks.refused (record {
        refusal = f;
        cause = cause_later (seen_from before middle) now.misses now.faults misses more q f
            (cause_of q (seen_from before middle) f p.1 came);
        status_is = ap (λ (r : Report). r.status) p.0;
        report_is = ap (λ (r : Report). r.deliveries) p.0;
      })

  line_fits : (line : Words) → task_of line ≡ Some t → (f : Refusal) (report : Report)
      (came : Comes q (seen_from before middle) (Err f)) → IsHeardFor f came → now.heard ≡ middle.heard
      → middle.misses ≤ now.misses → middle.faults ≤ now.faults → IsLineOf f report
      → Fits (Some line) the_run middle earlier report
  line_fits line is_task f report came heard same misses more p =
      let both =
      says_asked t (seen_in the_run) line report.status report.deliveries is_task
      (refused_in f report came misses more p) in (
        both.0,
        same ∙ heard.behind
            ∙ ap (λ l. before.heard ++ l)
            (hears_cause q (seen_from before middle) f p.1 came heard.events heard.are
            ∙ sym (reads_later (seen_from before middle) now.misses now.faults misses more q f
            (cause_of q (seen_from before middle) f p.1 came))
            ∙ sym both.1),
        subst IsOwn (sym (ap (λ (r : Report). r.status) p.0)) (own_refusal f p.1),
      )

  pub refusal_ends : (line : Words) → task_of line ≡ Some t → (f : Refusal) (made : Result Report Memory)
      (status : Status) (came : Comes q (seen_from before middle) (Err f)) → IsHeardFor f came
      → now.heard ≡ middle.heard → middle.misses ≤ now.misses → middle.faults ≤ now.faults
      → IfOk made (IsLineOf f) → Puts made status middle now → Ends (Some line) the_run status
  refusal_ends line is_task f made status came heard same misses more p put =
      ends_put (Some line) the_run middle earlier made status
      (if_ok (IsLineOf f) (Fits (Some line) the_run middle earlier)
      (λ report x. line_fits line is_task f report came heard same misses more x) made p)
      (record {
        events = heard.events;
        behind = same ∙ heard.behind;
        are = read_asked t line heard.events is_task
            (read_on f q (seen_from before middle) came heard.events heard.are);
      }) put

  module _ (result : Result Case Refusal) (exact : (names : Names) → before.held ≡ Some names
      → (other : Result Case Refusal)
      → Comes q (seen_of names before.misses middle.misses before.faults middle.faults) other → Alike result other)
      (same : now.misses ≡ middle.misses) where
    told_cause : (names : Names) → before.held ≡ Some names → (f : Refusal) → IsCause q (seen_from before now) f
        → IsCause q (seen_of names before.misses now.misses before.faults now.faults) f
    told_cause names told f x = subst (λ (h : Told). IsCause q (record {
      held = h;
      misses = before.misses;
      misses_now = now.misses;
      faults = before.faults;
      faults_now = now.faults;
    }) f) told x

    alike : (names : Names) → before.held ≡ Some names → rose before.faults now.faults ≡ false → (f : Refusal)
        → IsCause q (seen_from before now) f → Alike result (Err f)
    alike names told no_fault f x =
        exact names told (Err f)
        (subst (λ n. Comes q (seen_of names before.misses n before.faults middle.faults) (Err f)) same
        (cause_earlier q names before.misses now.misses before.faults now.faults no_fault middle.faults f
        (told_cause names told f x)))

  pub case_statuses : (case : Case) (status : Status) → ((names : Names) → before.held ≡ Some names
      → (other : Result Case Refusal)
      → Comes q (seen_of names before.misses middle.misses before.faults middle.faults) other → Alike (Ok case) other)
      → now.misses ≡ middle.misses → HaveCauses q the_run status
  case_statuses case status exact same = λ names told no_fault f x.
      right_case q names before.misses now.misses before.faults now.faults no_fault case f status
      (alike (Ok case) exact same names told no_fault f x)
      (told_cause (Ok case) exact same names told f x)

  pub refusal_statuses : (g : Refusal) (made : Result Report Memory) (status : Status)
      → ((names : Names) → before.held ≡ Some names → (other : Result Case Refusal)
      → Comes q (seen_of names before.misses middle.misses before.faults middle.faults) other → Alike (Err g) other)
      → now.misses ≡ middle.misses → middle.faults ≤ now.faults → Comes q (seen_from before middle) (Err g)
      → IfOk made (IsLineOf g) → Puts made status middle now → HaveCauses q the_run status
  refusal_statuses g made status exact same more came p put = λ names told no_fault f x.
      right_refusal q names before.misses now.misses before.faults now.faults no_fault g f made status middle now more
      (subst (λ n. Comes q (seen_of names before.misses n before.faults middle.faults) (Err g)) (sym same)
      (subst (λ (h : Told). Comes q (record {
        held = h;
        misses = before.misses;
        misses_now = middle.misses;
        faults = before.faults;
        faults_now = middle.faults;
      }) (Err g)) told came)) p put (alike (Err g) exact same names told no_fault f x)
      (told_cause (Err g) exact same names told f x)
