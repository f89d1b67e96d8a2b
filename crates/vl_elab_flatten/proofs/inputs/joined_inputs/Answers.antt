use Rattle.vl_elab_flatten.proofs.Joined.{joined_are}
use Rattle.vl_elab_flatten.proofs.inputs.joined_inputs.Goals as goal

pub returns : goal.returns
returns c x e =
    joined_are c.args.scopes.now x c.args.all.now c.in_ok-all_joined.field-0 c.in_ok-all_joined.ensures e
