use Rattle.std.proofs.Common.{refl, subst, arith}
use Rattle.sat_search.specs.Turns.{IsRefuted}
use Rattle.sat_search.proofs.Judged.{fit_steps, is_refuted}
use Rattle.sat_search.proofs.judging.is_refutation.Goals as goal

pub verify-requires : goal.verify-requires
verify-requires c =
    fit_steps c.vars.result c.args.steps.now c.vars.ensures.small (c.if-not-are_fit.ensures.0 refl)

pub returns-in-Ok : goal.returns-in-Ok
returns-in-Ok c = λ t.
    subst (λ n. IsRefuted c.args.budget c.args.formula.now.clauses n c.args.steps.now) c.vars.ensures.value
    (is_refuted c.args.budget c.vars.result c.args.formula.now.clauses c.args.steps.now c.in-Ok.refuted.id
    c.vars.ensures.small (omega (arith, c.if-steps-budget.false)) (c.if-not-are_fit.ensures.0 refl)
    c.in-Ok.ensures.answers (c.ends_empty.ensures t))
