use Rattle.vl_mean.specs.Params.{constant}
use Rattle.vl_elab_draft.proofs.Settling.{ok_copied}
use Rattle.vl_elab_draft.proofs.attributes.copied_expr.Goals as goal

pub returns : goal.returns
returns c = ok_copied c.settled.result (constant c.new.result) c.args.expr.now c.new.ensures c.settled.ensures
