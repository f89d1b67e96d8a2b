use Rattle.std.proofs.Common.{subst}
use Rattle.std.proofs.lemmas.Result.{on_ok_weaker}
use Rattle.vl_elab_flatten.specs.PortParts.{placed_connections}
use Rattle.vl_elab_emit.specs.Behind.{StandBehind}
use Rattle.vl_elab_flatten.proofs.instances.write_joined.Goals as goal

pub returns : goal.returns
returns c =
    let m = c.args.module.now in
    on_ok_weaker c.write_connections.result (λ h. subst (λ xs. StandBehind c.args.draft.now
    (placed_connections c.args.scopes.now c.args.inside.now m xs) c.write_connections.new.draft) c.as_slice.ensures
    (h m c.in_ok-ports.ensures)) c.write_connections.ensures
