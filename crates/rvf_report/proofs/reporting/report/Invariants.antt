use Rattle.std.proofs.Common.{◌≤◌, ◌-◌}
use Rattle.rvf_report.specs.Outcome.{outside}
use Rattle.rvf_report.specs.Steps.{Stands}
use Rattle.rvf_report.proofs.reporting.report.Given as goal

-- the report stands, and no more jobs are answered than there are
abbrev pub invariant-batches : goal.invariant-batches
invariant-batches g l =
    record {
      within : l.progress.place ≤ l.size;
      tallied : g.Q.Inquiry.tallied l.inquiry l.progress.place l.progress.tally;
      stands : Stands (g.Q.Inquiry.plan l.inquiry)
          (outside (g.F.Files.state l.fn.files) (g.O.Out.state l.fn.out))
          (outside (g.F.Files.state l.files) (g.O.Out.state l.out)) l.progress.place l.progress.tally;
    }

abbrev pub decreases-batches : goal.decreases-batches
decreases-batches g l = l.size - l.progress.place
