use Rattle.std.proofs.Common.{◌≡◌, ◌∙◌, ◌+◌, ◌++◌, [], ◌∷◌, ap, arith, None}
use Rattle.std.specs.Prelude.{drop}
use Rattle.std.proofs.lemmas.Grind.{common_steps}
use Rattle.vl_mean.specs.Declarations.{declared_ports, full_ports}
use Rattle.vl_elab_decls.specs.Ports.{decls_with}
use Rattle.vl_elab_decls.proofs.PortDecls.{ports_first, ports_last, ports_on}
use Rattle.vl_elab_decls.proofs.decls_ports.add_ports.Goals as goal

pub loop-port-init : goal.loop-port-init
loop-port-init c ss u g h k = ports_first ss u c.args.inputs.now g c.args.decls.now c.args.all.now k

pub loop-port-preserved : goal.loop-port-preserved
loop-port-preserved c ss u g h k =
    let inputs = c.args.inputs.now in
    let rest = drop (c.loop-port.port-index + 1) c.args.all.now in
    let front : drop c.loop-port.port-index c.args.all.now ≡ c.port-item.result
    ∷ drop (c.loop-port.port-index + 1) c.args.all.now = grind (arith, common_steps) in
    ports_on ss u inputs g (c.args.decls.now ++ declared_ports ss u.is_top u.input (full_ports None c.args.all.now))
    c.loop-port.last c.in_ok-last.last c.loop-port.decls c.add_port.new.decls c.port-item.result rest
    (drop c.loop-port.port-index c.args.all.now) front (λ q. c.in_ok-last.ensures ss q h)
    (c.in_ok-add_port.ensures
    ∙ ap (λ text. c.loop-port.decls ++ decls_with inputs c.in_ok-last.last text) c.port_text.ensures)
    (c.loop-port.invariant ss u g h k)

pub returns : goal.returns
returns c ss u g h k =
    let gone : drop c.loop-port.port-index c.args.all.now ≡ [] = grind (arith, common_steps) in
    ports_last ss u c.args.inputs.now g
    (c.args.decls.now ++ declared_ports ss u.is_top u.input (full_ports None c.args.all.now)) c.loop-port.last
    c.loop-port.decls (drop c.loop-port.port-index c.args.all.now) gone (c.loop-port.invariant ss u g h k)
