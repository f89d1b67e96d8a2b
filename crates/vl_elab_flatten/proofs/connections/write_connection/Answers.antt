use Rattle.std.proofs.Common.{◌∙◌, subst}
use Rattle.std.proofs.lemmas.Result.{on_ok_weaker}
use Rattle.vl_mean.specs.Declarations.{ports_of}
use Rattle.vl_elab_emit.specs.Behind.{StandBehind, placed_at}
use Rattle.vl_elab_flatten.proofs.Joined.{joined_so, written_directions}
use Rattle.vl_elab_flatten.proofs.connections.write_connection.Goals as goal

pub returns : goal.returns
returns c =
    let x = c.args.given.now in
    on_ok_weaker c.write_joined.result (λ h m d. subst
    (λ ps. StandBehind c.args.draft.now (placed_at x.pos ps) c.write_joined.new.draft)
    (joined_so c.args.scopes.now c.args.inside.now (ports_of m.ports) x.port x.value c.direction-direction.result
    (c.direction-direction.ensures ∙ written_directions c.args.ports.now m d x.port)) h) c.write_joined.ensures
