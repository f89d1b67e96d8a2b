use Rattle.std.proofs.Common.{ap, ◌∙◌}
use Rattle.lrat_check.specs.Texts.{step_text, lrat_text, steps_of}
use Rattle.cnf_text.proofs.ReadBack.{written_all}
use Rattle.lrat_check.proofs.ReadBack.{read_back}
use Rattle.lrat_check.proofs.lrat_write.lrat.Goals as goal

pub returns-clause-read_back : goal.returns-clause-read_back
returns-clause-read_back c = λ h.
    ap steps_of (written_all step_text c.args.steps.now c.loop-step.step-index c.loop-step.out.items
    (lrat_text c.args.steps.now) c.loop-step-test.false c.loop-step.invariant) ∙ read_back c.args.steps.now h
