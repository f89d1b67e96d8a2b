use Rattle.vl_mean.specs.Params.{constant}
use Rattle.vl_elab_spec.specs.Meanings.{constants}
use Rattle.vl_elab_scope.proofs.OfExpr.{ok_settled}
use Rattle.vl_elab_scope.proofs.tables.known_by_table.Goals as goal

pub returns : goal.returns
returns c =
    ok_settled c.settled.result (constant c.in_ok-params.params) (constants c.args.names.now) c.args.expr.now
    c.in_ok-params.ensures c.settled.ensures
