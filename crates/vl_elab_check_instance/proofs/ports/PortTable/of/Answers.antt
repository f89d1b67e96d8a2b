use Rattle.std.proofs.Common.{◌≡◌, ◌∙◌, ◌+◌, [], ◌∷◌, arith, None}
use Rattle.std.specs.Prelude.{drop}
use Rattle.std.proofs.lemmas.Grind.{common_steps}
use Rattle.vl_elab_check_instance.specs.Ports.{direction_in}
use Rattle.vl_elab_check_instance.proofs.Directions.{ports_on, ports_end, directions_are}
use Rattle.vl_elab_check_instance.proofs.ports.PortTable.of.Goals as goal

pub loop-port-preserved : goal.loop-port-preserved
loop-port-preserved c other =
    let front : drop c.loop-port.port-index c.args.all.now ≡ c.port-item.result
    ∷ drop (c.loop-port.port-index + 1) c.args.all.now = grind (arith, common_steps) in
    ports_on (direction_in c.loop-port.table other) (direction_in c.add_port.new.self other) c.loop-port.last
    c.next_direction-last.result c.port-item.result (drop c.loop-port.port-index c.args.all.now) _ _
    c.port_text.result.now other front c.next_direction-last.ensures c.port_text.ensures
    (c.in_ok-add_port.ensures other) (c.loop-port.invariant other)

pub returns : goal.returns
returns c other =
    let gone : drop c.loop-port.port-index c.args.all.now ≡ [] = grind (arith, common_steps) in
    ports_end (direction_in c.loop-port.table other) c.loop-port.last (drop c.loop-port.port-index c.args.all.now) _
    other gone (c.loop-port.invariant other) ∙ directions_are other c.args.all.now None
