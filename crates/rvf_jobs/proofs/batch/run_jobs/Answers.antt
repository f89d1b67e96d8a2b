use Rattle.std.proofs.lemmas.Result.{IfOk-weaker}
use Rattle.fv_text.specs.declared.memory.Memory.{Memory}
use Rattle.rvf_jobs.proofs.AnswersLemmas.{AreAnswers-of_results}
use Rattle.rvf_jobs.proofs.batch.run_jobs.Goals as goal

pub returns : goal.returns
returns g c =
    IfOk-weaker c.all_done.result _ _
    (λ answers all. AreAnswers-of_results Memory
    (g.J.Job.is_answer c.args.job.now) c.args.first c.args.count c.in_ok-results.field-0.items answers.items
    c.in_ok-results.ensures.len c.in_ok-results.ensures.each all)
    c.all_done.ensures
