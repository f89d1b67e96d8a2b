use Rattle.vl_elab_check_stmt.proofs.Cases.{in_place}
use Rattle.vl_elab_check_stmt.proofs.contexts.assigned_in.Goals as goal

pub returns-clause-value : goal.returns-clause-value
returns-clause-value c =
    in_place c.args.names.now c.args.width c.widened.result c.args.expr.now c.in_ok-own.own c.in_ok-own.ensures.value
    c.widened.ensures.value
