use Rattle.vl_mean.specs.Params.{constant}
use Rattle.vl_elab_draft.proofs.Settling.{ok_flat}
use Rattle.vl_elab_draft.proofs.exprs.flat_by_table.Goals as goal

pub returns : goal.returns
returns c =
    ok_flat c.renamed.result c.args.scopes.now (constant c.in_ok-params.params) c.args.expr.now c.in_ok-expr.expr
    c.in_ok-params.ensures c.in_ok-expr.ensures c.renamed.ensures
