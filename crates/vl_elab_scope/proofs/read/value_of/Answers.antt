use Rattle.std.proofs.Common.{◌∙◌}
use Rattle.std.specs.Prelude.{is_some}
use Rattle.vl_size.specs.Divisors.{valid_size}
use Rattle.vl_elab_scope.proofs.OfExpr.{value_is}
use Rattle.vl_elab_scope.proofs.read.value_of.Goals as goal

pub returns-clause-known : goal.returns-clause-known
returns-clause-known c =
    c.own_value.ensures.known
    ∙ (λ i. is_some (valid_size (c.no_names.ensures.decls i) (c.in_ok-expr.ensures i)))

pub returns-clause-value : goal.returns-clause-value
returns-clause-value c =
    value_is c.own_value.result _ _ _ _ c.no_names.ensures.decls c.no_names.ensures.numbers c.in_ok-expr.ensures
    c.own_value.ensures.width c.own_value.ensures.signed c.own_value.ensures.number
