-- What a line says by its task.
use Rattle.std.proofs.Common.{◌≡◌, ℕ, List, Option, Some, None, refl, sym, ap, ◌∙◌, subst}
use Rattle.fv_base.specs.declared.event.Event.{Event}
use Rattle.rvf_words.specs.declared.line.Line.{Line as Words}
use Rattle.rvf_words.specs.declared.line.Line.TheVariants as words
use Rattle.rvf_words.specs.declared.line.Options.{Options}
use Rattle.rvf_case.specs.Cases.{Seen}
use Rattle.rvf_case.specs.Hearing as hearing
use Rattle.rvf_report.specs.Outcome.{Outside}
use Rattle.rvf_report.specs.declared.delivery.Delivery.{Delivery}
use Rattle.rvf_report.specs.declared.status.Status.{Status}
use Rattle.rvf_core.specs.Run.{Answered, AnswersBegin, Begins, BeginsBy, IsReadOn, IsReadOnBy, Run, Says, SaysBy}
use Rattle.rvf_core.specs.Run.{answered_reads, begins_reads, begun_by, begun_reads, reads_by, says_reads}
use Rattle.rvf_core.specs.Steps.{HaveCauses, HaveStatus, Leaves}
use Rattle.rvf_core.specs.Tasks.{Task, cover_task, run_task, task_asked, task_of, zb_task}

pub same_task : (a b : Task) → ◌≡◌ {A = Option Task} (Some a) (Some b) → a ≡ b
same_task a b e = cc

no_task : (t : Task) → ◌≡◌ {A = Option Task} None (Some t) → ⊥
no_task t e = cc

module _ (t : Task) (seen : Seen) where
  -- what is said of the task is said under the line, and speaks of the same reads
  pub says_asked : (line : Words) (status : Status) (report : List Delivery) → task_of line ≡ Some t
      → (x : Answered t seen status report)
      → (says : Says (Some line) seen status report)
      × (says_reads (Some line) seen status report says ≡ answered_reads t seen status report x)
  says_asked line status report e x =
      subst (λ o. (says : SaysBy o line seen status report)
      × (reads_by o line seen status report says ≡ answered_reads t seen status report x)) (sym e) (x, refl)

  pub asked_says : (line : Option Words) (status : Status) (report : List Delivery) → task_asked line ≡ Some t
      → Says line seen status report → Answered t seen status report
  asked_says None status report e x = absurd (no_task t e)
  asked_says (Some line) status report e x = subst (λ o. SaysBy o line seen status report) e x

  -- the same of a report that has begun
  pub begins_asked : (line : Words) (report : List Delivery) → task_of line ≡ Some t
      → (x : AnswersBegin t seen.held report)
      → (begins : Begins (Some line) seen report)
      × (begins_reads (Some line) seen report begins ≡ begun_reads t seen.held report x)
  begins_asked line report e x =
      subst (λ o. (begins : BeginsBy o line seen report)
      × (begun_by o line seen report begins ≡ begun_reads t seen.held report x)) (sym e) (x, refl)

-- of the files that the task asks for the first ones were read
pub read_asked : (t : Task) (line : Words) (events : List Event) → task_of line ≡ Some t
    → hearing.IsReadOn t.request events → IsReadOn (Some line) events
read_asked t line events e x = subst (λ o. IsReadOnBy o line events) (sym e) x

-- ---- statuses of causes

-- words that put no questions have no cause of these
pub no_statuses : (line : Option Words) (r : Run) (status : Status) → task_asked line ≡ None → Leaves line r status
    → HaveStatus line r status
no_statuses line r status none left =
    record { causes = λ t e. absurd (no_task t (sym none ∙ e)); leaves = left }

-- words that put questions write no clauses of graphs
task_leaves : (line : Option Words) (own : Task) (r : Run) (status : Status) → task_asked line ≡ Some own
    → Leaves line r status
task_leaves None own r status is = tt
task_leaves (Some (words.Run cfg outdir core basedir budget jobs cubes)) own r status is = tt
task_leaves (Some (words.List cfg)) own r status is = tt
task_leaves (Some (words.Lrat cnf proof)) own r status is = tt
task_leaves (Some (words.Bench size)) own r status is = tt
task_leaves (Some (words.Cover o)) own r status is = tt
task_leaves (Some (words.Zb o)) own r status is = tt
task_leaves (Some (words.Induct o steps)) own r status is = absurd (no_task own is)
task_leaves (Some (words.Toaig cfg check file core basedir)) own r status is = absurd (no_task own is)
task_leaves (Some (words.Fromaig aag cnf)) own r status is = absurd (no_task own is)

-- a run between two moments
abbrev pub run_between : List (List ℕ) → Outside → Outside → Run
run_between words before now = record { words = words; before = before; now = now }

pub task_statuses : (line : Option Words) (own : Task) (r : Run) (status : Status) → task_asked line ≡ Some own
    → HaveCauses own.request r status → HaveStatus line r status
task_statuses line own r status is causes = record {
  causes = λ t e. subst (λ (u : Task). HaveCauses u.request r status) (same_task own t (sym is ∙ e)) causes;
  leaves = task_leaves line own r status is;
}

-- ---- the task of a line that was read, in other words

pub run_asks : (l : Words) (cfg outdir core basedir a b c d : List ℕ) (budget jobs cubes : ℕ)
    → l ≡ words.Run cfg outdir core basedir budget jobs cubes → a ≡ cfg → b ≡ outdir → c ≡ core → d ≡ basedir
    → task_of l ≡ Some (run_task a b c d budget cubes)
run_asks l cfg outdir core basedir a b c d budget jobs cubes e p q r s =
    ap task_of e
    ∙ sym (ap (λ x. Some (run_task x b c d budget cubes)) p ∙ ap (λ x. Some (run_task cfg x c d budget cubes)) q
    ∙ ap (λ x. Some (run_task cfg outdir x d budget cubes)) r
    ∙ ap (λ x. Some (run_task cfg outdir core x budget cubes)) s)

pub cover_asks : (l : Words) (o : Options) (t : Task) → l ≡ words.Cover o → t ≡ cover_task o → task_of l ≡ Some t
cover_asks l o t e f = ap task_of e ∙ sym (ap (λ x. Some x) f)

pub zb_asks : (l : Words) (o : Options) (t : Task) → l ≡ words.Zb o → t ≡ zb_task o → task_of l ≡ Some t
zb_asks l o t e f = ap task_of e ∙ sym (ap (λ x. Some x) f)
