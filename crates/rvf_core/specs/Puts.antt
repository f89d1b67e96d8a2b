-- Between functions: What a call leaves that delivers a report. Rule of this project.
use Rattle.std.specs.Prelude.{◌≡◌, [], Result, Ok, Err}
use Rattle.fv_text.specs.declared.memory.Memory.{Memory}
use Rattle.fv_base.specs.declared.out.OutFault.{OutFault}
use Rattle.rvf_report.specs.Outcome.{Outside, Delivers, IsDelivered, LeavesOne}
use Rattle.rvf_report.specs.Status.{ends}
use Rattle.rvf_report.specs.declared.status.Status.{Status}
use Rattle.rvf_report.specs.declared.status.Status.TheVariants as s
use Rattle.rvf_core.specs.declared.report.Report.{Report}

-- the report was delivered as far as the answer says, not all of it where memory was wanted, and the status is its or
-- what took its place
pub record IsPut (report : Report) (status : Status) (before now : Outside) : Type 0 where
  pub delivered : Result (Unit {0}) OutFault
  pub is : IsDelivered delivered before now report.deliveries
  pub left : LeavesOne delivered before now report.deliveries
  pub status_is : status ≡ ends delivered report.status

-- without a report memory was wanted, and nothing was delivered
abbrev pub Puts : Result Report Memory → Status → Outside → Outside → Type 0
Puts (Ok report) status before now = IsPut report status before now
Puts (Err fault) status before now = (status ≡ s.Memory) × Delivers before now []
