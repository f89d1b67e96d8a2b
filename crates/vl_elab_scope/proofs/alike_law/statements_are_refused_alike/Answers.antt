use Rattle.vl_elab_scope.proofs.Stmts.{same_assignment, same_stmt, same_initial}
use Rattle.vl_elab_scope.proofs.alike_law.statements_are_refused_alike.Goals as goal

pub returns-clause-assignment : goal.returns-clause-assignment
returns-clause-assignment c = same_assignment

pub returns-clause-statement : goal.returns-clause-statement
returns-clause-statement c = same_stmt

pub returns-clause-initial : goal.returns-clause-initial
returns-clause-initial c = same_initial
