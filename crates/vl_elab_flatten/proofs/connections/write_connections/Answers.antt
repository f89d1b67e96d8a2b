use Rattle.std.proofs.Common.{◌≡◌, ◌+◌, [], ◌∷◌, ap, arith}
use Rattle.std.specs.Prelude.{drop}
use Rattle.std.proofs.lemmas.Grind.{common_steps}
use Rattle.vl_elab_emit.specs.Behind.{placed_at}
use Rattle.vl_elab_emit.proofs.Standing.{rest_first, rest_last, rest_next}
use Rattle.vl_elab_flatten.specs.PortParts.{connection_parts, placed_connections}
use Rattle.vl_elab_flatten.proofs.connections.write_connections.Goals as goal

pub loop-given-init : goal.loop-given-init
loop-given-init c m d =
    rest_first c.args.draft.now (placed_connections c.args.scopes.now c.args.inside.now m c.args.all.now)

pub loop-given-preserved : goal.loop-given-preserved
loop-given-preserved c m d =
    let placed = placed_connections c.args.scopes.now c.args.inside.now m in
    let x = c.given-item.result in
    let rest = drop (c.loop-given.given-index + 1) c.args.all.now in
    let front : drop c.loop-given.given-index c.args.all.now ≡ c.given-item.result
    ∷ drop (c.loop-given.given-index + 1) c.args.all.now = grind (arith, common_steps) in
    rest_next c.args.draft.now (placed c.args.all.now) c.loop-given.draft c.write_connection.new.draft
    (placed (drop c.loop-given.given-index c.args.all.now))
    (placed_at x.pos (connection_parts c.args.scopes.now c.args.inside.now m x)) (placed rest)
    (c.loop-given.invariant m d) (ap placed front) (c.in_ok-write_connection.ensures m d)

pub returns : goal.returns
returns c m d =
    let placed = placed_connections c.args.scopes.now c.args.inside.now m in
    let gone : drop c.loop-given.given-index c.args.all.now ≡ [] = grind (arith, common_steps) in
    rest_last c.args.draft.now (placed c.args.all.now) c.loop-given.draft
    (placed (drop c.loop-given.given-index c.args.all.now)) (c.loop-given.invariant m d) (ap placed gone)
