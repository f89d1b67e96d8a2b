use Rattle.std.proofs.Common.{◌≡◌, ◌+◌, length}
use Rattle.rvf_report.specs.Outcome.{Outside, outside}
use Rattle.rvf_report.specs.Steps.{Stands}
use Rattle.rvf_report.proofs.progress.deliver_answers.Given as goal

-- so many jobs more are answered, and the report goes on
abbrev pub invariant-loop-answer : goal.invariant-loop-answer
invariant-loop-answer g l =
    record {
      placed : l.progress.place ≡ l.fn.before.place + length l.yielded;
      tallied : g.Q.Inquiry.tallied l.inquiry l.progress.place l.progress.tally;
      stands : (first : Outside) → Stands (g.Q.Inquiry.plan l.inquiry) first
          (outside (g.F.Files.state l.fn.files) (g.O.Out.state l.fn.out)) l.fn.before.place l.fn.before.tally
          → Stands (g.Q.Inquiry.plan l.inquiry) first
          (outside (g.F.Files.state l.files) (g.O.Out.state l.out)) l.progress.place l.progress.tally;
    }
