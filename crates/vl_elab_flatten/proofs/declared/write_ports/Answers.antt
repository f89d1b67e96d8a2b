use Rattle.std.proofs.Common.{◌≡◌, ◌+◌, [], ◌∷◌, arith}
use Rattle.std.specs.Prelude.{drop}
use Rattle.std.proofs.lemmas.Grind.{common_steps}
use Rattle.vl_elab_flatten.specs.PortParts.{placed_ports}
use Rattle.vl_elab_flatten.proofs.Written.{first_may, ports_first, ports_last, ports_on}
use Rattle.vl_elab_flatten.proofs.declared.write_ports.Goals as goal

pub loop-port-init : goal.loop-port-init
loop-port-init c =
    ports_first c.args.scopes.now c.args.path.now c.args.draft.now c.args.decls.now c.args.all.now c.requires

pub write_first-requires : goal.write_first-requires
write_first-requires c =
    let all = placed_ports c.args.scopes.now c.args.path.now c.args.decls.now c.args.all.now in
    let rest = drop (c.loop-port.port-index + 1) c.args.all.now in
    let front : drop c.loop-port.port-index c.args.all.now ≡ c.port-item.result
    ∷ drop (c.loop-port.port-index + 1) c.args.all.now = grind (arith, common_steps) in
    first_may c.args.scopes.now c.args.path.now c.args.draft.now all c.loop-port.draft c.loop-port.last
    c.next_net-last.result c.loop-port.rest.now c.port-item.result rest
    (drop c.loop-port.port-index c.args.all.now) front c.next_net-last.ensures c.loop-port.invariant

pub loop-port-preserved : goal.loop-port-preserved
loop-port-preserved c =
    let all = placed_ports c.args.scopes.now c.args.path.now c.args.decls.now c.args.all.now in
    let rest = drop (c.loop-port.port-index + 1) c.args.all.now in
    let front : drop c.loop-port.port-index c.args.all.now ≡ c.port-item.result
    ∷ drop (c.loop-port.port-index + 1) c.args.all.now = grind (arith, common_steps) in
    ports_on c.args.scopes.now c.args.path.now c.args.draft.now all c.loop-port.draft c.loop-port.last
    c.next_net-last.result c.loop-port.rest.now c.port-item.result rest
    (drop c.loop-port.port-index c.args.all.now) front c.next_net-last.ensures c.loop-port.invariant
    c.write_first.new.draft c.in_ok-rest.rest.now c.in_ok-rest.ensures.rest c.in_ok-rest.ensures.written

pub returns : goal.returns
returns c =
    let all = placed_ports c.args.scopes.now c.args.path.now c.args.decls.now c.args.all.now in
    let gone : drop c.loop-port.port-index c.args.all.now ≡ [] = grind (arith, common_steps) in
    ports_last c.args.scopes.now c.args.path.now c.args.draft.now all c.loop-port.draft c.loop-port.last
    c.loop-port.rest.now (drop c.loop-port.port-index c.args.all.now) gone c.loop-port.invariant
