use Rattle.rvf_core.proofs.Exact.{IsExact-answers}
use Rattle.rvf_core.proofs.top.run_gated.Goals as goal

pub returns-clause-exact : goal.returns-clause-exact
returns-clause-exact g c =
    IsExact-answers _ c.answered.result c.answered.ensures.answer c.answered.ensures.statuses
    c.answered.ensures.counts
