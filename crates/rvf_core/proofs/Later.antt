-- What a call delivers behind another one, that only read, is what both deliver; and causes that were there as the
-- first one ended are there as the second one ends.
use Rattle.std.proofs.Common.{◌≡◌, ℕ, ◌≤◌, List, [], refl, sym, subst, arith}
use Rattle.fv_base.specs.Outside.{Appends, Rose, SameFiles}
use Rattle.rvf_case.specs.Loading.load as load
use Rattle.rvf_case.specs.Cases.{IsCause, Request, Seen}
use Rattle.rvf_case.specs.Hearing.{cause_reads}
use Rattle.rvf_case.specs.declared.refusal.Refusal.{Refusal}
use Rattle.rvf_case.specs.declared.refusal.Refusal.TheVariants as refusal
use Rattle.rvf_report.specs.Outcome.{Outside, Delivers, Fails, LeavesPart, Pass, Stops}
use Rattle.rvf_report.specs.declared.delivery.Delivery.{Delivery}
use Rattle.rvf_report.specs.declared.delivery.Delivery.TheVariants.{File, Line}
use Rattle.rvf_report.specs.declared.status.Status.{Status}
use Rattle.rvf_report.proofs.Deliveries.{Appends-nothing, Delivers-behind, LeavesPart-behind, Pass-nothing}
use Rattle.rvf_core.specs.Certifies.{Certifies, certifies_reads}
use Rattle.rvf_core.specs.Certifies as certifies
use Rattle.rvf_core.specs.Encodes.{Encodes, encodes_reads}
use Rattle.rvf_core.specs.Encodes as encodes
use Rattle.rvf_core.specs.Lists.{Lists, lists_reads}
use Rattle.rvf_core.specs.Lists as lists

-- files were read, and nothing else was done
pub record IsEarlier (before middle : Outside) : Type 0 where
  pub held : SameFiles before.held middle.held
  pub sent : middle.sent ≡ before.sent
  pub written : middle.written ≡ before.written
  pub taken : middle.taken ≡ before.taken
  pub faults : before.faults ≤ middle.faults
  pub out_faults : before.out_faults ≤ middle.out_faults

nothing_yet : (a b : Outside) → IsEarlier a b → Delivers a b []
nothing_yet a b e = record {
  files = e.held;
  lines = subst (λ sent. Appends a.sent sent []) (sym e.sent) (Appends-nothing a.sent);
  pass = Pass-nothing a b e.written e.taken;
}

-- what came through before a delivery that failed
pub part_pass : (before now : Outside) (done : List Delivery) (failing : Delivery) → LeavesPart before now done failing
    → Pass before now done
part_pass before now done (File name bytes) p = p.3
part_pass before now done (Line bytes) p = p.3

module _ (a b c : Outside) (e : IsEarlier a b) (report : List Delivery) where
  pub later_delivers : Delivers b c report → Delivers a c report
  later_delivers d = Delivers-behind a b c [] report (nothing_yet a b e) d

  pub later_fails : Fails b c report → Fails a c report
  later_fails f = record {
    done = f.done;
    failing = f.failing;
    rest = f.rest;
    order = f.order;
    part = LeavesPart-behind a b c [] f.done f.failing (nothing_yet a b e) e.faults e.out_faults f.part;
  }

  pub later_stops : Stops b c report → Stops a c report
  later_stops f = record {
    done = f.done;
    rest = f.rest;
    order = f.order;
    delivered = Delivers-behind a b c [] f.done (nothing_yet a b e) f.delivered;
  }

-- ---- causes

pub rose_later : (before middle now : ℕ) → Rose before middle → middle ≤ now → Rose before now
rose_later before middle now rose le = omega arith

-- the same call's end, with counts as they stand later
abbrev pub seen_later : Seen → ℕ → ℕ → Seen
seen_later seen misses faults = record {
  held = seen.held;
  misses = seen.misses;
  misses_now = misses;
  faults = seen.faults;
  faults_now = faults;
}

module _ (seen : Seen) (misses faults : ℕ) (more_misses : seen.misses_now ≤ misses)
    (more_faults : seen.faults_now ≤ faults) where
  pub missed_later : Rose seen.misses seen.misses_now → Rose seen.misses misses
  missed_later rose = rose_later seen.misses seen.misses_now misses rose more_misses

  pub failed_later : Rose seen.faults seen.faults_now → Rose seen.faults faults
  failed_later rose = rose_later seen.faults seen.faults_now faults rose more_faults

  abbrev pub cause_later : (q : Request) (f : Refusal) → IsCause q seen f → IsCause q (seen_later seen misses faults) f
  cause_later q (refusal.Absent name) x =
      record { next = x.next; lacks = x.lacks; counted = missed_later x.counted }
  cause_later q (refusal.Unread name) x = record { next = x.next; counted = failed_later x.counted }
  cause_later q (refusal.Config f) x = x
  cause_later q (refusal.NoCheck name) x = x
  cause_later q (refusal.Source (load.Text f) names) x = x
  cause_later q (refusal.Source (load.Elab f) names) x = x
  cause_later q (refusal.Source (load.Flow f) names) x = x
  cause_later q (refusal.Source (load.Heavy place number) names) x = absurd x
  cause_later q (refusal.Source (load.Port f) names) x = x
  cause_later q (refusal.Source load.Memory names) x = x
  cause_later q (refusal.Heavy name number) x = x
  cause_later q refusal.Memory x = absurd x

  -- it speaks of the same reads
  pub reads_later : (q : Request) (f : Refusal) (x : IsCause q seen f)
      → cause_reads q (seen_later seen misses faults) f (cause_later q f x) ≡ cause_reads q seen f x
  reads_later q (refusal.Absent name) x = refl
  reads_later q (refusal.Unread name) x = refl
  reads_later q (refusal.Config f) x = refl
  reads_later q (refusal.NoCheck name) x = refl
  reads_later q (refusal.Source (load.Text f) names) x = refl
  reads_later q (refusal.Source (load.Elab f) names) x = refl
  reads_later q (refusal.Source (load.Flow f) names) x = refl
  reads_later q (refusal.Source (load.Heavy place number) names) x = absurd x
  reads_later q (refusal.Source (load.Port f) names) x = refl
  reads_later q (refusal.Source load.Memory names) x = refl
  reads_later q (refusal.Heavy name number) x = refl
  reads_later q refusal.Memory x = absurd x

  abbrev listed_cause_later : (cfg : List ℕ) (f : Refusal) → lists.IsCause cfg seen f
      → lists.IsCause cfg (seen_later seen misses faults) f
  listed_cause_later cfg (refusal.Absent name) x = (x.0, x.1, missed_later x.2)
  listed_cause_later cfg (refusal.Unread name) x = (x.0, failed_later x.1)
  listed_cause_later cfg (refusal.Config f) x = x
  listed_cause_later cfg (refusal.NoCheck name) x = absurd x
  listed_cause_later cfg (refusal.Source f names) x = absurd x
  listed_cause_later cfg (refusal.Heavy name number) x = absurd x
  listed_cause_later cfg refusal.Memory x = absurd x

  listed_reads_later : (cfg : List ℕ) (f : Refusal) (x : lists.IsCause cfg seen f)
      → lists.cause_reads cfg (seen_later seen misses faults) f (listed_cause_later cfg f x)
      ≡ lists.cause_reads cfg seen f x
  listed_reads_later cfg (refusal.Absent name) x = refl
  listed_reads_later cfg (refusal.Unread name) x = refl
  listed_reads_later cfg (refusal.Config f) x = refl
  listed_reads_later cfg (refusal.NoCheck name) x = absurd x
  listed_reads_later cfg (refusal.Source f names) x = absurd x
  listed_reads_later cfg (refusal.Heavy name number) x = absurd x
  listed_reads_later cfg refusal.Memory x = absurd x

  abbrev pub lists_later : (cfg : List ℕ) (status : Status) (report : List Delivery) → Lists cfg seen status report
      → Lists cfg (seen_later seen misses faults) status report
  lists_later cfg status report (lists.listed x) = lists.listed (record {
    config = x.config;
    configured = x.configured;
    status_is = x.status_is;
    report_is = x.report_is;
  })
  lists_later cfg status report (lists.refused x) = lists.refused (record {
    refusal = x.refusal;
    cause = listed_cause_later cfg x.refusal x.cause;
    status_is = x.status_is;
    report_is = x.report_is;
  })

  pub lists_reads_later : (cfg : List ℕ) (status : Status) (report : List Delivery)
      (x : Lists cfg seen status report)
      → lists_reads cfg (seen_later seen misses faults) status report (lists_later cfg status report x)
      ≡ lists_reads cfg seen status report x
  lists_reads_later cfg status report (lists.listed x) = refl
  lists_reads_later cfg status report (lists.refused x) = listed_reads_later cfg x.refusal x.cause

  abbrev pub certifies_later : (cnf proof : List ℕ) (status : Status) (report : List Delivery)
      → Certifies cnf proof seen status report
      → Certifies cnf proof (seen_later seen misses faults) status report
  certifies_later cnf proof status report (certifies.judged x) = certifies.judged x
  certifies_later cnf proof status report (certifies.absent x) = certifies.absent (record {
    name = x.name;
    next = x.next;
    lacks = x.lacks;
    counted = missed_later x.counted;
    status_is = x.status_is;
    report_is = x.report_is;
  })
  certifies_later cnf proof status report (certifies.unread x) = certifies.unread (record {
    name = x.name;
    next = x.next;
    counted = failed_later x.counted;
    status_is = x.status_is;
    report_is = x.report_is;
  })

  pub certifies_reads_later : (cnf proof : List ℕ) (status : Status) (report : List Delivery)
      (x : Certifies cnf proof seen status report)
      → certifies_reads cnf proof (seen_later seen misses faults) status report
      (certifies_later cnf proof status report x) ≡ certifies_reads cnf proof seen status report x
  certifies_reads_later cnf proof status report (certifies.judged x) = refl
  certifies_reads_later cnf proof status report (certifies.absent x) = refl
  certifies_reads_later cnf proof status report (certifies.unread x) = refl

  abbrev pub encodes_later : (graph cnf : List ℕ) (status : Status) (report : List Delivery)
      → Encodes graph cnf seen status report → Encodes graph cnf (seen_later seen misses faults) status report
  encodes_later graph cnf status report (encodes.read x) = encodes.read x
  encodes_later graph cnf status report (encodes.absent x) = encodes.absent (record {
    lacks = x.lacks;
    counted = missed_later x.counted;
    status_is = x.status_is;
    report_is = x.report_is;
  })
  encodes_later graph cnf status report (encodes.unread x) = encodes.unread (record {
    counted = failed_later x.counted;
    status_is = x.status_is;
    report_is = x.report_is;
  })

  pub encodes_reads_later : (graph cnf : List ℕ) (status : Status) (report : List Delivery)
      (x : Encodes graph cnf seen status report)
      → encodes_reads graph cnf (seen_later seen misses faults) status report
      (encodes_later graph cnf status report x) ≡ encodes_reads graph cnf seen status report x
  encodes_reads_later graph cnf status report (encodes.read x) = refl
  encodes_reads_later graph cnf status report (encodes.absent x) = refl
  encodes_reads_later graph cnf status report (encodes.unread x) = refl
