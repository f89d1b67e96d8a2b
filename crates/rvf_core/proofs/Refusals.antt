-- A cause why no check is judged, and the refusal that the work came to, have one status.
use Rattle.std.proofs.Common.{◌≡◌, ℕ, ◌≤◌, true, false, Some, Result, Ok, Err, IfOk, refl, sym, ap}
use Rattle.std.proofs.Common.{◌∙◌, subst}
use Rattle.fv_base.specs.Outside.{Names}
use Rattle.fv_text.specs.declared.memory.Memory.{Memory}
use Rattle.fv_base.specs.declared.out.OutFault.{OutFault}
use Rattle.fv_base.specs.declared.out.OutFault.TheVariants as out
use Rattle.rvf_case.specs.Loading.load as load
use Rattle.rvf_report.specs.Lines.{refusal_line}
use Rattle.rvf_case.specs.Cases.{Alike, Comes, IsCause, Request, Seen}
use Rattle.rvf_case.specs.declared.case.Case.{Case}
use Rattle.rvf_case.specs.declared.refusal.Refusal.{Refusal}
use Rattle.rvf_case.specs.declared.refusal.Refusal.TheVariants as refusal
use Rattle.rvf_report.specs.Outcome.{Outside}
use Rattle.rvf_report.specs.Status.{ends}
use Rattle.rvf_report.specs.declared.status.Status.{Status}
use Rattle.rvf_core.specs.Certificate.{one_line}
use Rattle.rvf_core.specs.Checks.{refused_status}
use Rattle.rvf_core.specs.Puts.{Puts}
use Rattle.rvf_core.specs.Run.{comes, rose}
use Rattle.rvf_core.specs.Steps.{is_memory}
use Rattle.rvf_core.specs.declared.report.Report.{Report}
use Rattle.rvf_core.proofs.Causes.{unrisen}
use Rattle.rvf_core.proofs.Later.{rose_later}
use Rattle.rvf_core.proofs.Statuses.{comes_Memory, comes_WriteFault, comes_itself}

-- not an answer of which nothing is known
abbrev IsTold : Refusal → Type 0
IsTold (refusal.Unread name) = ⊥
IsTold refusal.Memory = ⊥
IsTold f = Unit {0}

same_status : (g f : Refusal) → Alike (Err g) (Err f) → IsTold g → IsTold f → refused_status f ≡ refused_status g
same_status (refusal.Absent name) (refusal.Absent other_name) alike there also = refl
same_status (refusal.Absent name) (refusal.Unread other_name) alike there also = absurd also
same_status (refusal.Absent name) (refusal.Config other_f) alike there also = absurd alike
same_status (refusal.Absent name) (refusal.NoCheck other_name) alike there also = absurd alike
same_status (refusal.Absent name) (refusal.Source other_f other_names) alike there also = absurd alike
same_status (refusal.Absent name) (refusal.Heavy other_name other_number) alike there also = absurd alike
same_status (refusal.Absent name) refusal.Memory alike there also = absurd also
same_status (refusal.Unread name) (refusal.Absent other_name) alike there also = absurd there
same_status (refusal.Unread name) (refusal.Unread other_name) alike there also = absurd there
same_status (refusal.Unread name) (refusal.Config other_f) alike there also = absurd there
same_status (refusal.Unread name) (refusal.NoCheck other_name) alike there also = absurd there
same_status (refusal.Unread name) (refusal.Source other_f other_names) alike there also = absurd there
same_status (refusal.Unread name) (refusal.Heavy other_name other_number) alike there also = absurd there
same_status (refusal.Unread name) refusal.Memory alike there also = absurd there
same_status (refusal.Config f) (refusal.Absent other_name) alike there also = absurd alike
same_status (refusal.Config f) (refusal.Unread other_name) alike there also = absurd also
same_status (refusal.Config f) (refusal.Config other_f) alike there also = refl
same_status (refusal.Config f) (refusal.NoCheck other_name) alike there also = absurd alike
same_status (refusal.Config f) (refusal.Source other_f other_names) alike there also = absurd alike
same_status (refusal.Config f) (refusal.Heavy other_name other_number) alike there also = absurd alike
same_status (refusal.Config f) refusal.Memory alike there also = absurd also
same_status (refusal.NoCheck name) (refusal.Absent other_name) alike there also = absurd alike
same_status (refusal.NoCheck name) (refusal.Unread other_name) alike there also = absurd also
same_status (refusal.NoCheck name) (refusal.Config other_f) alike there also = absurd alike
same_status (refusal.NoCheck name) (refusal.NoCheck other_name) alike there also = refl
same_status (refusal.NoCheck name) (refusal.Source other_f other_names) alike there also = absurd alike
same_status (refusal.NoCheck name) (refusal.Heavy other_name other_number) alike there also = absurd alike
same_status (refusal.NoCheck name) refusal.Memory alike there also = absurd also
same_status (refusal.Source f names) (refusal.Absent other_name) alike there also = absurd alike
same_status (refusal.Source f names) (refusal.Unread other_name) alike there also = absurd also
same_status (refusal.Source f names) (refusal.Config other_f) alike there also = absurd alike
same_status (refusal.Source f names) (refusal.NoCheck other_name) alike there also = absurd alike
same_status (refusal.Source f names) (refusal.Source other_f other_names) alike there also = refl
same_status (refusal.Source f names) (refusal.Heavy other_name other_number) alike there also = absurd alike
same_status (refusal.Source f names) refusal.Memory alike there also = absurd also
same_status (refusal.Heavy name number) (refusal.Absent other_name) alike there also = absurd alike
same_status (refusal.Heavy name number) (refusal.Unread other_name) alike there also = absurd also
same_status (refusal.Heavy name number) (refusal.Config other_f) alike there also = absurd alike
same_status (refusal.Heavy name number) (refusal.NoCheck other_name) alike there also = absurd alike
same_status (refusal.Heavy name number) (refusal.Source other_f other_names) alike there also = absurd alike
same_status (refusal.Heavy name number) (refusal.Heavy other_name other_number) alike there also = refl
same_status (refusal.Heavy name number) refusal.Memory alike there also = absurd also
same_status refusal.Memory (refusal.Absent other_name) alike there also = absurd there
same_status refusal.Memory (refusal.Unread other_name) alike there also = absurd there
same_status refusal.Memory (refusal.Config other_f) alike there also = absurd there
same_status refusal.Memory (refusal.NoCheck other_name) alike there also = absurd there
same_status refusal.Memory (refusal.Source other_f other_names) alike there also = absurd there
same_status refusal.Memory (refusal.Heavy other_name other_number) alike there also = absurd there
same_status refusal.Memory refusal.Memory alike there also = absurd there

true_false : true ≡ false → ⊥
true_false e = cc

-- what a made report says of a refusal
abbrev pub IsLineOf : Refusal → Report → Type 0
IsLineOf g report = (report ≡ one_line (refused_status g) (refusal_line g)) × (is_memory g ≡ false)

-- what a call saw, where files are told
abbrev pub seen_of : Names → ℕ → ℕ → ℕ → ℕ → Seen
seen_of names misses misses_now faults faults_now = record {
  held = Some names;
  misses = misses;
  misses_now = misses_now;
  faults = faults;
  faults_now = faults_now;
}

module _ (q : Request) (names : Names) (misses misses_now faults faults_now : ℕ)
    (no_fault : rose faults faults_now ≡ false) where
  cause_told : (f : Refusal) → IsCause q (seen_of names misses misses_now faults faults_now) f → IsTold f
  cause_told (refusal.Absent name) x = tt
  cause_told (refusal.Unread name) x = unrisen faults faults_now no_fault x.counted
  cause_told (refusal.Config f) x = tt
  cause_told (refusal.NoCheck name) x = tt
  cause_told (refusal.Source f names) x = tt
  cause_told (refusal.Heavy name number) x = tt
  cause_told refusal.Memory x = x

  -- of a cause that was there before
  answer_told : (before : ℕ) → before ≤ faults_now → (f : Refusal) → is_memory f ≡ false
      → Comes q (seen_of names misses misses_now faults before) (Err f) → IsTold f
  answer_told before le (refusal.Absent name) some x = tt
  answer_told before le (refusal.Unread name) some x =
      unrisen faults faults_now no_fault (rose_later faults before faults_now x.counted le)
  answer_told before le (refusal.Config f) some x = tt
  answer_told before le (refusal.NoCheck name) some x = tt
  answer_told before le (refusal.Source f names) some x = tt
  answer_told before le (refusal.Heavy name number) some x = tt
  answer_told before le refusal.Memory some x = true_false some

  -- a cause that is there in the end was there before, where no name was missed in between
  pub cause_earlier : (before : ℕ) (f : Refusal) → IsCause q (seen_of names misses misses_now faults faults_now) f
      → Comes q (seen_of names misses misses_now faults before) (Err f)
  cause_earlier before (refusal.Absent name) x = record { next = x.next; lacks = x.lacks; counted = x.counted }
  cause_earlier before (refusal.Unread name) x = absurd (unrisen faults faults_now no_fault x.counted)
  cause_earlier before (refusal.Config f) x = x
  cause_earlier before (refusal.NoCheck name) x = x
  cause_earlier before (refusal.Source (load.Text f) ns) x = x
  cause_earlier before (refusal.Source (load.Elab f) ns) x = x
  cause_earlier before (refusal.Source (load.Flow f) ns) x = x
  cause_earlier before (refusal.Source (load.Heavy place number) ns) x = x
  cause_earlier before (refusal.Source (load.Port f) ns) x = x
  cause_earlier before (refusal.Source load.Memory ns) x = x
  cause_earlier before (refusal.Heavy name number) x = x
  cause_earlier before refusal.Memory x = absurd x

  -- nothing is refused where the work came to a case
  pub right_case : (case : Case) (f : Refusal) (status : Status) → Alike (Ok case) (Err f)
      → IsCause q (seen_of names misses misses_now faults faults_now) f → comes (refused_status f) status ≡ true
  right_case case (refusal.Absent name) status alike x = absurd alike
  right_case case (refusal.Unread name) status alike x = absurd (unrisen faults faults_now no_fault x.counted)
  right_case case (refusal.Config f) status alike x = absurd alike
  right_case case (refusal.NoCheck name) status alike x = absurd alike
  right_case case (refusal.Source f names) status alike x = absurd alike
  right_case case (refusal.Heavy name number) status alike x = absurd alike
  right_case case refusal.Memory status alike x = absurd x

  right_ended : (wanted status : Status) (delivered : Result (Unit {0}) OutFault) → wanted ≡ status
      → comes wanted (ends delivered status) ≡ true
  right_ended wanted status (Ok u) e = comes_itself wanted status (sym e)
  right_ended wanted status (Err out.Failed) e = comes_WriteFault wanted
  right_ended wanted status (Err out.Memory) e = comes_Memory wanted

  -- and where it came to another refusal, that has the same status
  pub right_refusal : (g f : Refusal) (made : Result Report Memory) (status : Status) (middle now : Outside)
      → middle.faults ≤ faults_now → Comes q (seen_of names misses misses_now faults middle.faults) (Err g)
      → IfOk made (IsLineOf g) → Puts made status middle now → Alike (Err g) (Err f)
      → IsCause q (seen_of names misses misses_now faults faults_now) f → comes (refused_status f) status ≡ true
  right_refusal g f (Err fault) status middle now le came made put alike x =
      subst (λ z. comes (refused_status f) z ≡ true) (sym put.0) (comes_Memory (refused_status f))
  right_refusal g f (Ok report) status middle now le came made put alike x =
      let same : refused_status f ≡ report.status =
      same_status g f alike (answer_told middle.faults le g made.1 came) (cause_told f x)
      ∙ sym (ap (λ (y : Report). y.status) made.0) in
      subst (λ z. comes (refused_status f) z ≡ true) (sym put.status_is)
      (right_ended (refused_status f) report.status put.delivered same)
