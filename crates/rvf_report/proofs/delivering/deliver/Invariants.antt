use Rattle.rvf_report.specs.Outcome.{outside}
use Rattle.rvf_report.proofs.Deliveries.{SoFar}
use Rattle.rvf_report.proofs.delivering.deliver.Given as goal

-- the deliveries before the next one came through
abbrev pub invariant-loop-delivery : goal.invariant-loop-delivery
invariant-loop-delivery g l =
    SoFar
    (outside (g.F.Files.state l.fn.files) (g.O.Out.state l.fn.out))
    (outside (g.F.Files.state l.files) (g.O.Out.state l.out)) l.delivery-index l.fn.deliveries
