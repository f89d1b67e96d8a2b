use Rattle.vl_elab_scope.proofs.Exprs.{same_expr, same_own}
use Rattle.vl_elab_scope.proofs.alike_law.expressions_are_refused_alike.Goals as goal

pub returns-clause-context : goal.returns-clause-context
returns-clause-context c = same_expr

pub returns-clause-own : goal.returns-clause-own
returns-clause-own c = same_own
