use Rattle.std.proofs.Common.{arith, length}
use Rattle.std.proofs.lemmas.Result.{IfOk-weaker}
use Rattle.rvf_report.proofs.Standing.{few_placed, more_placed, wants_memory}
use Rattle.rvf_report.proofs.reporting.deliver_batch.Goals as goal

pub deliver_answers-requires-clause-room : goal.deliver_answers-requires-clause-room
deliver_answers-requires-clause-room g c = omega (arith, c.in-Ok.ensures.within, c.requires.room)

pub deliver_answers-requires-clause-answers : goal.deliver_answers-requires-clause-answers
deliver_answers-requires-clause-answers g c κs longer = c.in-Ok.ensures.answers

pub returns-in-Ok-clause-proceeds : goal.returns-in-Ok-clause-proceeds
returns-in-Ok-clause-proceeds g c = c.deliver_answers.ensures.proceeds

pub returns-in-Ok-clause-more : goal.returns-in-Ok-clause-more
returns-in-Ok-clause-more g c =
    IfOk-weaker c.deliver_answers.result _ _
    (λ progress more. more_placed c.args.before.place (length c.in-Ok.answers.items) progress.place
    c.in-Ok.ensures.some more) c.deliver_answers.ensures.more

pub returns-in-Ok-clause-within : goal.returns-in-Ok-clause-within
returns-in-Ok-clause-within g c =
    IfOk-weaker c.deliver_answers.result _ _
    (λ progress more. few_placed c.args.before.place (length c.in-Ok.answers.items) progress.place c.args.size
    c.in-Ok.ensures.within more) c.deliver_answers.ensures.more

pub returns-in-Err-clause-proceeds : goal.returns-in-Err-clause-proceeds
returns-in-Err-clause-proceeds g c = λ first stands.
    wants_memory (g.Q.Inquiry.plan c.args.inquiry.now) first _ c.args.before.place c.args.before.tally stands
