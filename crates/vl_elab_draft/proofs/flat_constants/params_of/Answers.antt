use Rattle.vl_mean.specs.Params.{constant}
use Rattle.vl_mean.specs.Scopes.{constant_in}
use Rattle.vl_elab_scope.specs.Texts.{texts}
use Rattle.vl_elab_draft.proofs.Filling.{filled_agrees}
use Rattle.vl_elab_draft.proofs.flat_constants.params_of.Goals as goal

pub returns : goal.returns
returns c =
    filled_agrees (constant_in c.args.scopes.now) _ (texts c.args.expr.now) (constant c.new-params.result)
    c.new-params.ensures c.in_ok-add_constants.ensures
