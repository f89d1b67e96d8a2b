-- Which calls failed, by the status.
use Rattle.std.proofs.Common.{◌≡◌, ◌∙◌, ℕ, false, List, [], ◌∷◌, ◌++◌, Result, Ok, Err, IfOk, refl, sym, ap, subst}
use Rattle.fv_base.specs.Outside.{UnlessFailed, UnlessNotPut}
use Rattle.fv_base.specs.declared.files.FileFault.{FileFault}
use Rattle.fv_base.specs.declared.files.FileFault.TheVariants as file
use Rattle.fv_text.specs.declared.memory.Memory.{Memory}
use Rattle.fv_base.specs.declared.out.OutFault.{OutFault}
use Rattle.fv_base.specs.declared.out.OutFault.TheVariants as out
use Rattle.rvf_case.specs.Cases.{UnlessFault}
use Rattle.rvf_case.specs.declared.refusal.Refusal.{Refusal}
use Rattle.rvf_case.specs.declared.refusal.Refusal.TheVariants as refusal
use Rattle.rvf_report.specs.Lines.{refusal_line, unread_line}
use Rattle.rvf_report.specs.Outcome.{Outside, Delivers, IsQuiet, LeavesOne, StopsBefore}
use Rattle.rvf_report.specs.Status.{UnlessBroken, ends}
use Rattle.rvf_report.specs.declared.delivery.Delivery.{Delivery}
use Rattle.rvf_report.specs.declared.delivery.Delivery.TheVariants.{Line}
use Rattle.rvf_report.specs.declared.status.Status.{Status}
use Rattle.rvf_report.specs.declared.status.Status.TheVariants as s
use Rattle.rvf_core.specs.Certificate.{one_line}
use Rattle.rvf_core.specs.Checks.{refused_status}
use Rattle.rvf_core.specs.Puts.{Puts}
use Rattle.rvf_core.specs.Run.{HasCounts, none_delivered, none_failed}
use Rattle.rvf_core.specs.Steps.{TellsReads, all_read, is_memory, told}
use Rattle.rvf_core.specs.Unread.{IsUnreadReport}
use Rattle.rvf_core.specs.declared.report.Report.{Report}
use Rattle.rvf_core.proofs.Apart.{true_false}
use Rattle.rvf_core.proofs.Later.{IsEarlier, later_delivers}

-- none did
pub quiet_counts : (status : Status) (before now : Outside) → IsQuiet before now → HasCounts status before now
quiet_counts s.Passed before now q = q
quiet_counts s.Failing before now q = q
quiet_counts s.Spent before now q = q
quiet_counts s.Usage before now q = q
quiet_counts s.Config before now q = q
quiet_counts s.Source before now q = q
quiet_counts s.Absent before now q = q
quiet_counts s.ReadFault before now q = q.1
quiet_counts s.WriteFault before now q = tt
quiet_counts s.Heavy before now q = q
quiet_counts s.Refused before now q = q
quiet_counts s.Memory before now q = (q.1, none_failed q.0)

-- what the end of a run over checks says
pub unbroken_counts : (status : Status) (before now : Outside) (P : Type 0) → (P → IsQuiet before now)
    → UnlessBroken status P → HasCounts status before now
unbroken_counts s.Passed before now P h p = h p
unbroken_counts s.Failing before now P h p = h p
unbroken_counts s.Spent before now P h p = h p
unbroken_counts s.Usage before now P h p = h p
unbroken_counts s.Config before now P h p = h p
unbroken_counts s.Source before now P h p = h p
unbroken_counts s.Absent before now P h p = h p
unbroken_counts s.ReadFault before now P h p = (h p).1
unbroken_counts s.WriteFault before now P h p = tt
unbroken_counts s.Heavy before now P h p = h p
unbroken_counts s.Refused before now P h p = h p
unbroken_counts s.Memory before now P h p = quiet_counts s.Memory before now (h p)

with_any_status : (status : Status) (P : Type 0) → P → UnlessBroken status P
with_any_status s.Passed P p = p
with_any_status s.Failing P p = p
with_any_status s.Spent P p = p
with_any_status s.Usage P p = p
with_any_status s.Config P p = p
with_any_status s.Source P p = p
with_any_status s.Absent P p = p
with_any_status s.ReadFault P p = p
with_any_status s.WriteFault P p = tt
with_any_status s.Heavy P p = p
with_any_status s.Refused P p = p
with_any_status s.Memory P p = p

ends_quiet : (d : Result (Unit {0}) OutFault) (status : Status) (P : Type 0) → UnlessNotPut d P
    → UnlessBroken (ends d status) P
ends_quiet (Ok u) status P p = with_any_status status P p
ends_quiet (Err out.Failed) status P p = tt
ends_quiet (Err out.Memory) status P p = p

-- a report that was delivered as far as this says
pub put_quiet : (d : Result (Unit {0}) OutFault) (wanted status : Status) (P : Type 0) → status ≡ ends d wanted
    → UnlessNotPut d P → UnlessBroken status P
put_quiet d wanted status P is p = subst (λ x. UnlessBroken x P) (sym is) (ends_quiet d wanted P p)

-- ---- what reports tell of reads

-- the report of a refusal
pub refusal_tells : (f : Refusal) (faults now : ℕ) (report : Report) → UnlessFault f (now ≡ faults)
    → (report ≡ one_line (refused_status f) (refusal_line f)) × (is_memory f ≡ false) → TellsReads report faults now
refusal_tells (refusal.Absent name) faults now report p is = all_read p
refusal_tells (refusal.Unread name) faults now report p is = told (unread_line name) is.0
refusal_tells (refusal.Config f) faults now report p is = all_read p
refusal_tells (refusal.NoCheck name) faults now report p is = all_read p
refusal_tells (refusal.Source f names) faults now report p is = all_read p
refusal_tells (refusal.Heavy name number) faults now report p is = all_read p
refusal_tells refusal.Memory faults now report p is = absurd (true_false is.1)

-- the report on a file that gave no bytes
pub fault_tells : (A : Type 0) (fault : FileFault) (name : List ℕ) (faults now : ℕ) (P : Type 0) (report : Report)
    → (P → now ≡ faults) → UnlessFailed {A = A} (Err fault) P → IsUnreadReport fault name report
    → TellsReads report faults now
fault_tells A file.Absent name faults now P report h p is = all_read (h p)
fault_tells A file.Failed name faults now P report h p is = told (unread_line name) is
fault_tells A file.Memory name faults now P report h p is = absurd is

-- ---- a report that is delivered behind what was read

pub same_tail : (x y : Delivery) (xs ys : List Delivery) → x ∷ xs ≡ y ∷ ys → xs ≡ ys
same_tail x y xs ys e = cc

pub never_empty : (xs : List Delivery) (y : Delivery) (ys : List Delivery) → xs ++ y ∷ ys ≡ [] → ⊥
never_empty [] y ys e = cc
never_empty (x ∷ xs) y ys e = cc

pub none_done : (done : List Delivery) (next : Delivery) (rest : List Delivery) (line : Delivery)
    → done ++ next ∷ rest ≡ line ∷ [] → done ≡ []
none_done [] next rest line e = refl
none_done (d ∷ done) next rest line e =
    absurd (never_empty done next rest (same_tail d line (done ++ next ∷ rest) [] e))

module _ (before middle now : Outside) (earlier : IsEarlier before middle)
    (same : middle.out_faults ≡ before.out_faults) where
  -- of one line that is left nothing was delivered
  one_left : (line : Delivery) → StopsBefore middle now (line ∷ []) → Delivers before now []
  one_left line h =
      later_delivers before middle now earlier []
      (subst (λ ds. Delivers middle now ds) (none_done h.done h.next h.rest line h.order) h.delivered)

  left : (report : Report) → TellsReads report before.faults middle.faults → StopsBefore middle now report.deliveries
      → IsQuiet middle now → HasCounts s.Memory before now
  left report (all_read e) h q = (q.1 ∙ same, none_failed (q.0 ∙ e))
  left report (told line e) h q = (
    q.1 ∙ same,
    none_delivered (one_left (Line line)
        (subst (λ ds. StopsBefore middle now ds) (ap (λ (r : Report). r.deliveries) e) h)),
  )

  stood : (report : Report) → TellsReads report before.faults middle.faults
      → UnlessBroken report.status (IsQuiet middle now) → HasCounts report.status before now
  stood report (all_read e) q =
      unbroken_counts report.status before now (IsQuiet middle now) (λ p. (p.0 ∙ e, p.1 ∙ same)) q
  stood report (told line e) q =
      let is : report.status ≡ s.ReadFault = ap (λ (r : Report). r.status) e in
      let p : IsQuiet middle now = subst (λ x. UnlessBroken x (IsQuiet middle now)) is q in
      subst (λ x. HasCounts x before now) (sym is) (p.1 ∙ same)

  ended : (put : Result (Unit {0}) OutFault) (report : Report) → TellsReads report before.faults middle.faults
      → LeavesOne put middle now report.deliveries → UnlessBroken (ends put report.status) (IsQuiet middle now)
      → HasCounts (ends put report.status) before now
  ended (Ok u) report t l q = stood report t q
  ended (Err out.Failed) report t l q = tt
  ended (Err out.Memory) report t l q = left report t l q

  pub put_counts : (made : Result Report Memory) (status : Status)
      → IfOk made (λ report. TellsReads report before.faults middle.faults) → Puts made status middle now
      → UnlessBroken status (IsQuiet middle now) → HasCounts status before now
  put_counts (Ok report) status t put q =
      subst (λ x. HasCounts x before now) (sym put.status_is)
      (ended put.delivered report t put.left (subst (λ x. UnlessBroken x (IsQuiet middle now)) put.status_is q))
  put_counts (Err fault) status t put q =
      let p : IsQuiet middle now = subst (λ x. UnlessBroken x (IsQuiet middle now)) put.0 q in
      subst (λ x. HasCounts x before now) (sym put.0)
      (p.1 ∙ same, none_delivered (later_delivers before middle now earlier [] put.1))
