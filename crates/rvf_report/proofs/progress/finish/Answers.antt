use Rattle.rvf_report.proofs.Standing.{finishes, finishes_not}
use Rattle.rvf_report.proofs.progress.finish.Goals as goal

pub returns-in-Ok : goal.returns-in-Ok
returns-in-Ok g c = λ first stands.
    finishes (g.Q.Inquiry.plan c.args.inquiry.now) first _ _ c.args.progress.place c.args.progress.tally stands
    c.requires.all (c.in-Ok.ensures.delivered _ c.last.ensures) c.in-Ok.ensures.counts

pub returns-in-Err : goal.returns-in-Err
returns-in-Err g c = λ first stands.
    finishes_not (g.Q.Inquiry.plan c.args.inquiry.now) first _ _ c.args.progress.place c.args.progress.tally stands
    c.requires.all c.in-Err.fault (c.in-Err.ensures.delivered _ c.last.ensures) c.in-Err.ensures.counts
