use Rattle.std.proofs.Common.{◌-◌, ◌≤◌, arith}
use Rattle.std.proofs.lemmas.Result.{IfOk-weaker}
use Rattle.rvf_report.proofs.Answering.{batch_answers}
use Rattle.rvf_report.proofs.Standing.{few_count, some_count}
use Rattle.rvf_report.proofs.batch.answer_batch.Goals as goal

pub returns-clause-answers : goal.returns-clause-answers
returns-clause-answers g c =
    let plan = g.Q.Inquiry.plan c.args.inquiry.now in
    let laws = g.met.Q.Inquiry g.world.𝓛 g.world.𝓜 g.world.𝓡 ((λ s x. x), (λ x. x), (λ x. x), λ x. x) in
    IfOk-weaker c.run_jobs.result _ _
    (λ answers are. batch_answers plan (g.Q.Job.is_answer c.args.inquiry.now) c.args.first c.min-count.result answers.items
    (laws.planned c.args.inquiry.now) are) c.run_jobs.ensures

pub returns-clause-some : goal.returns-clause-some
returns-clause-some g c =
    let left : 1 ≤ c.args.size - c.args.first = omega (arith, c.requires.left) in
    let some = some_count c.min-count.result (c.args.size - c.args.first) c.args.jobs c.min-count.ensures left
    c.requires.jobs in
    IfOk-weaker c.run_jobs.result _ _ (λ answers are. omega (arith, are.whole, some)) c.run_jobs.ensures

pub returns-clause-within : goal.returns-clause-within
returns-clause-within g c =
    let few = few_count c.min-count.result c.args.size c.args.first c.args.jobs c.min-count.ensures c.requires.left in
    IfOk-weaker c.run_jobs.result _ _ (λ answers are. omega (arith, are.whole, few)) c.run_jobs.ensures
