use Rattle.vl_elab_decls.proofs.Stacks.{left_four}
use Rattle.vl_elab_decls.proofs.scopes.leave_scope.Goals as goal

pub returns-clause-names : goal.returns-clause-names
returns-clause-names c = left_four c.args.names.now _ _ c.leave.ensures c.leave-2.ensures

pub returns-clause-numbers : goal.returns-clause-numbers
returns-clause-numbers c = left_four c.args.numbers.now _ _ c.leave-3.ensures c.leave-4.ensures
