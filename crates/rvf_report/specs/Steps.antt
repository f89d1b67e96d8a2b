-- Between functions: What functions promise one another while a report is delivered. Rules of this project.
use Rattle.std.specs.Prelude.{◌≡◌, ℕ, ◌≤◌, List, Result, Ok, Err, length}
use Rattle.fv_base.specs.declared.out.OutFault.{OutFault}
use Rattle.fv_base.specs.declared.out.OutFault.TheVariants as out
use Rattle.rvf_report.specs.Outcome.{Outside, Delivers, IsDelivered}
use Rattle.rvf_report.specs.Reports.{AreAnswersFrom, IsReport, Plan, Reports, begun, tally_of}
use Rattle.rvf_report.specs.declared.delivery.Delivery.{Delivery}
use Rattle.rvf_report.specs.declared.progress.Progress.{Progress}

-- nothing was read, and no count moved
pub record AreUnmoved (before now : Outside) : Type 0 where
  pub heard : now.heard ≡ before.heard
  pub misses : now.misses ≡ before.misses
  pub faults : now.faults ≡ before.faults
  pub out_faults : now.out_faults ≡ before.out_faults

-- nothing was read, no count fell, and no name was missed
pub record IsCounted (before now : Outside) : Type 0 where
  pub heard : now.heard ≡ before.heard
  pub misses : now.misses ≡ before.misses
  pub faults : before.faults ≤ now.faults
  pub out_faults : before.out_faults ≤ now.out_faults

-- how the counts moved in a call that delivers: none rose, unless a delivery failed
abbrev pub CountsIn : Result (Unit {0}) OutFault → Outside → Outside → Type 0
CountsIn (Ok u) before now = AreUnmoved before now
CountsIn (Err out.Failed) before now = IsCounted before now
CountsIn (Err out.Memory) before now = AreUnmoved before now

module _ {A T : Type 0} (plan : Plan A T) where
  -- so many jobs have answers, these came through behind the head, and no count of faults rose
  pub record Stands (before now : Outside) (place : ℕ) (tally : T) : Type 0 where
    pub answers : List A
    pub are : AreAnswersFrom plan 0 answers
    pub many : length answers ≡ place
    pub tally_is : tally ≡ tally_of plan answers
    pub delivered : Delivers before now (begun plan answers)
    pub quiet : AreUnmoved before now

  -- the first jobs are answered, and the report of these came to a fault
  pub record CutsOff (before now : Outside) (fault : OutFault) : Type 0 where
    pub answers : List A
    pub are : AreAnswersFrom plan 0 answers
    pub report : List Delivery
    pub is : IsReport plan answers report
    pub ended : IsDelivered (Err fault) before now report
    pub counts : CountsIn (Err fault) before now

  -- how delivering more went
  abbrev pub Proceeds : Result (Progress T) OutFault → Outside → Outside → Type 0
  Proceeds (Ok progress) before now = Stands before now progress.place progress.tally
  Proceeds (Err fault) before now = CutsOff before now fault

  -- what delivering the report left in the end
  abbrev pub Ends : Result T OutFault → Outside → Outside → Type 0
  Ends (Ok tally) before now = Reports plan before now (plan.status tally) × AreUnmoved before now
  Ends (Err fault) before now = CutsOff before now fault
