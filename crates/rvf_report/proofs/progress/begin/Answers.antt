use Rattle.rvf_report.proofs.Standing.{begins, begins_not}
use Rattle.rvf_report.proofs.progress.begin.Goals as goal

pub returns-in-Ok-clause-proceeds : goal.returns-in-Ok-clause-proceeds
returns-in-Ok-clause-proceeds g c =
    let plan = g.Q.Inquiry.plan c.args.inquiry.now in
    begins plan _ _ c.none-tally.result c.none-tally.ensures.value
    (c.in-Ok.ensures.delivered plan.head c.head.ensures) c.in-Ok.ensures.counts

pub returns-in-Err-clause-proceeds : goal.returns-in-Err-clause-proceeds
returns-in-Err-clause-proceeds g c =
    let plan = g.Q.Inquiry.plan c.args.inquiry.now in
    begins_not plan c.in-Err.fault _ _ (c.in-Err.ensures.delivered plan.head c.head.ensures) c.in-Err.ensures.counts
