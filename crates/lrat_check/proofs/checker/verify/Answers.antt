use Rattle.std.proofs.Common.{subst, arith}
use Rattle.lrat_check.specs.Steps.{judged}
use Rattle.lrat_check.specs.Store.{held_of, AreHeld}
use Rattle.lrat_check.proofs.Takes.{step_at, begins, refused, accepted, goes_on}
use Rattle.lrat_check.proofs.Sound.{judged_sound}
use Rattle.lrat_check.proofs.checker.verify.Goals as goal

pub loop-step-init : goal.loop-step-init
loop-step-init c = (
  begins (held_of c.in_ok-store_of.field-0) c.len.result c.args.formula.now.clauses c.args.steps.now
      c.in_ok-store_of.ensures.held c.len.ensures.value,
  c.in_ok-store_of.ensures.lits,
  omega (arith, c.in_ok-store_of.ensures.next, c.len.ensures.value),
)

pub take-requires-clause-step : goal.take-requires-clause-step
take-requires-clause-step c =
    step_at c.args.steps.now c.loop-step.step-index c.step-item.result c.requires c.loop-step-test.true c.step-item.is

pub returns-in-Err-clause-answers : goal.returns-in-Err-clause-answers
returns-in-Err-clause-answers c =
    refused (held_of c.loop-step.checker.held)
    (held_of c.take.new.self.held) c.loop-step.checker.top c.take.new.self.top c.args.steps.now
    c.loop-step.step-index c.step-item.result
    (judged c.args.formula.now.clauses c.args.steps.now) c.loop-step-test.true c.step-item.is c.loop-step.invariant.0
    c.in-Err.fault c.in-Err.ensures.takes

pub returns-in-Ok-Some-clause-answers : goal.returns-in-Ok-Some-clause-answers
returns-in-Ok-Some-clause-answers c =
    accepted (held_of c.loop-step.checker.held)
    (held_of c.take.new.self.held) c.loop-step.checker.top c.take.new.self.top c.args.steps.now
    c.loop-step.step-index c.step-item.result
    (judged c.args.formula.now.clauses c.args.steps.now) c.loop-step-test.true c.step-item.is c.loop-step.invariant.0
    c.in-Ok-Some.refuted c.in-Ok-Some.field-0 c.in-Ok-Some.field-0-is c.in-Ok-Some.ensures.takes

pub returns-in-Ok-Some-clause-sound : goal.returns-in-Ok-Some-clause-sound
returns-in-Ok-Some-clause-sound c = λ values.
    judged_sound values c.in-Ok-Some.refuted c.args.formula.now.clauses c.args.steps.now
    (subst AreHeld c.in_ok-store_of.ensures.held c.in_ok-store_of.ensures.lits) c.requires
    (accepted (held_of c.loop-step.checker.held)
    (held_of c.take.new.self.held) c.loop-step.checker.top c.take.new.self.top c.args.steps.now
    c.loop-step.step-index c.step-item.result
    (judged c.args.formula.now.clauses c.args.steps.now) c.loop-step-test.true c.step-item.is c.loop-step.invariant.0
    c.in-Ok-Some.refuted c.in-Ok-Some.field-0 c.in-Ok-Some.field-0-is c.in-Ok-Some.ensures.takes)

pub loop-step-preserved : goal.loop-step-preserved
loop-step-preserved c = (
  goes_on (held_of c.loop-step.checker.held)
      (held_of c.take.new.self.held) c.loop-step.checker.top c.take.new.self.top c.args.steps.now
      c.loop-step.step-index c.step-item.result
      (judged c.args.formula.now.clauses c.args.steps.now) c.loop-step-test.true c.step-item.is
      c.loop-step.invariant.0 c.in-Ok-None.field-0 c.in-Ok-None.field-0-is c.in-Ok-None.ensures.takes,
  c.in-Ok-None.ensures.held,
  c.in-Ok-None.ensures.top,
)
