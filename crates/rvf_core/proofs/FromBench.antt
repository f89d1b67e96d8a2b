-- From the files that `bench` makes to the end of a run over its checks.
use Rattle.std.proofs.Common.{◌≡◌, ℕ, List, [], Some, None, Result, Err, IfOk, refl, sym, ap, subst}
use Rattle.fv_base.specs.Outside.{Names, SameFiles, Told}
use Rattle.fv_text.specs.declared.memory.Memory.{Memory}
use Rattle.rvf_judge.specs.Sources.{JudgementsAreTheSources}
use Rattle.rvf_words.specs.declared.line.Line.{Line as Words}
use Rattle.rvf_words.specs.declared.line.Line.TheVariants as words
use Rattle.rvf_case.specs.Cases.{Comes, IsCase, IsReady, Seen}
use Rattle.rvf_case.specs.declared.case.Case.{Case}
use Rattle.rvf_case.specs.declared.refusal.Refusal.{Refusal}
use Rattle.rvf_report.specs.Outcome.{Outside}
use Rattle.rvf_report.specs.Reports.{Concludes}
use Rattle.rvf_report.specs.declared.status.Status.{Status}
use Rattle.rvf_checks.specs.Checked.{plan_of}
use Rattle.rvf_checks.specs.declared.wording.Wording.TheVariants as wording
use Rattle.rvf_checks.specs.Known.{known_of}
use Rattle.rvf_core.specs.Bench as bench
use Rattle.rvf_core.specs.Checks as checks
use Rattle.rvf_core.specs.Puts.{Puts}
use Rattle.rvf_core.specs.Run.{Ends, Run}
use Rattle.rvf_core.specs.declared.report.Report.{Report}
use Rattle.rvf_core.proofs.Endings.{Fits, IsOwn, ends_concluded, ends_put}
use Rattle.rvf_core.proofs.FromChecks.{cause_of}
use Rattle.rvf_core.proofs.FromFiles.{if_ok, own_refusal}
use Rattle.rvf_core.proofs.FromWords.{at_once, none_heard}
use Rattle.rvf_core.proofs.Refusals.{IsLineOf}

-- what is told of files that hold the same
told_same : (told : Told) (names : Names) → SameFiles (Some names) told → told ≡ Some names
told_same (Some other) names same = λ i. Some (λ name. same name i)
told_same None names same = absurd same

module _ (size : ℕ) (asked : List (List ℕ)) (before now : Outside) (held : Told)
    (same : SameFiles (Some (bench.held_of size)) held) (unheard : now.heard ≡ before.heard) where
  abbrev line : Words
  line = words.Bench size

  abbrev the_run : Run
  the_run = record { words = asked; before = before; now = now }

  held_is : held ≡ Some (bench.held_of size)
  held_is = told_same held (bench.held_of size) same

  pub bench_case_ends : JudgementsAreTheSources (known_of 0) → (case : Case) (status : Status)
      → IsCase bench.request held case → IsReady case
      → Concludes (plan_of (known_of 0) case (wording.Bench size) bench.folder bench.budget) status before now
      → Ends (Some line) the_run status
  bench_case_ends law case status is ready x =
      ends_concluded 0 law bench.request (Some (bench.held_of size)) (wording.Bench size) bench.folder bench.budget case
      (subst (λ h. IsCase bench.request h case) held_is is) ready (Some line) the_run
      (λ d files read. [])
      (λ told report w. record { misses = 0; misses_now = 0; checks = checks.judged w }) (λ report b. b)
      (λ told report w. refl) (λ report b. refl) (none_heard before.heard now.heard unheard) before (at_once before)
      status x

  module _ (misses misses_now : ℕ) (f : Refusal) where
    abbrev seen : Told → Seen
    seen h = record { held = h; misses = misses; misses_now = misses_now; faults = 0; faults_now = 0 }

    bench_fits : (report : Report) → Comes bench.request (seen held) (Err f) → IsLineOf f report
        → Fits (Some line) the_run before (at_once before) report
    bench_fits report came p = (
      record {
        misses = misses;
        misses_now = misses_now;
        checks = checks.refused (record {
          refusal = f;
          cause = cause_of bench.request (seen (Some (bench.held_of size))) f p.1
              (subst (λ h. Comes bench.request (seen h) (Err f)) held_is came);
          status_is = ap (λ (r : Report). r.status) p.0;
          report_is = ap (λ (r : Report). r.deliveries) p.0;
        });
      },
      none_heard before.heard now.heard unheard,
      subst IsOwn (sym (ap (λ (r : Report). r.status) p.0)) (own_refusal f p.1),
    )

    pub bench_refusal_ends : (made : Result Report Memory) (status : Status)
        → Comes bench.request (seen held) (Err f) → IfOk made (IsLineOf f) → Puts made status before now
        → Ends (Some line) the_run status
    bench_refusal_ends made status came p put =
        ends_put (Some line) the_run before (at_once before) made status
        (if_ok (IsLineOf f) (Fits (Some line) the_run before (at_once before))
        (λ report x. bench_fits report came x) made p)
        (record { events = []; behind = none_heard before.heard now.heard unheard; are = refl }) put
