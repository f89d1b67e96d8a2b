use Rattle.rvf_report.proofs.Standing.{goes_no_further, goes_on}
use Rattle.rvf_report.proofs.progress.deliver_answer.Goals as goal

pub returns-in-Ok-clause-proceeds : goal.returns-in-Ok-clause-proceeds
returns-in-Ok-clause-proceeds g c = λ first stands.
    let plan = g.Q.Inquiry.plan c.args.inquiry.now in
    goes_on plan first _ _ c.args.before.place c.args.before.tally c.args.answer stands c.requires.answers
    c.counted-tally.result c.counted-tally.ensures.value
    (c.in-Ok.ensures.delivered (plan.deliveries c.args.before.place c.args.answer) c.deliveries-made.ensures)
    c.in-Ok.ensures.counts

pub returns-in-Err-clause-proceeds : goal.returns-in-Err-clause-proceeds
returns-in-Err-clause-proceeds g c = λ first stands.
    let plan = g.Q.Inquiry.plan c.args.inquiry.now in
    goes_no_further plan first _ _ c.args.before.place c.args.before.tally c.args.answer stands c.requires.answers
    c.in-Err.fault
    (c.in-Err.ensures.delivered (plan.deliveries c.args.before.place c.args.answer) c.deliveries-made.ensures)
    c.in-Err.ensures.counts
