use Rattle.std.proofs.Common.{sym, subst}
use Rattle.lrat_check.specs.Steps.{AreSteps}
use Rattle.lrat_check.proofs.ReadSteps.{steps_push}
use Rattle.lrat_check.proofs.lrat_read.take_line.Goals as goal

pub returns-clause-steps : goal.returns-clause-steps
returns-clause-steps c = subst AreSteps (sym c.in_ok-push.ensures.items)
    (steps_push c.args.steps.now.items c.in_ok-step_of.field-0 c.requires c.in_ok-step_of.ensures.step)
