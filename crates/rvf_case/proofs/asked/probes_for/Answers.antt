use Rattle.rvf_case.proofs.AskedQuestions.{probes_are}
use Rattle.rvf_case.proofs.asked.probes_for.Goals as goal

pub returns : goal.returns
returns c = probes_are c.args.config.now c.args.kind c.args.checks.now c.has_asking.result c.has_asking-2.result
    c.has_asking.ensures c.has_asking-2.ensures
