use Rattle.std.proofs.Common.{ap, sym, ◌∙◌}
use Rattle.std.specs.Prelude.{Some, is_some}
use Rattle.vl_size.specs.Divisors.{valid_size}
use Rattle.vl_elab_scope.proofs.read.own_value.Goals as goal

pub returns-in-None-clause-known : goal.returns-in-None-clause-known
returns-in-None-clause-known c =
    ap is_some (sym c.in-None.is ∙ c.size_of.ensures.value ∙ ap (λ ds. valid_size ds c.args.expr.now) c.decls.ensures)

pub returns-in-Some-clause-known : goal.returns-in-Some-clause-known
returns-in-Some-clause-known c =
    ap is_some (sym c.in-Some.is ∙ c.size_of.ensures.value ∙ ap (λ ds. valid_size ds c.args.expr.now) c.decls.ensures)

pub returns-in-Some-clause-width : goal.returns-in-Some-clause-width
returns-in-Some-clause-width c =
    ap Some c.own_at.ensures.width ∙ sym c.in-Some.is ∙ c.size_of.ensures.value
    ∙ ap (λ ds. valid_size ds c.args.expr.now) c.decls.ensures
