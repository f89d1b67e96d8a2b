use Rattle.vl_elab_scope.proofs.Meant.{ok_named}
use Rattle.vl_elab_scope.proofs.constants.whole_name.Goals as goal

pub returns : goal.returns
returns c =
    ok_named c.name_or_number.result c.args.pos c.args.text.now _ _ c.constant_of.ensures c.name_or_number.ensures
