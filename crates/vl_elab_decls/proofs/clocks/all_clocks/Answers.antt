use Rattle.std.proofs.Common.{◌≡◌, ◌∙◌, ◌+◌, [], ◌∷◌, ap, sym, arith}
use Rattle.std.specs.Prelude.{drop, None}
use Rattle.std.proofs.lemmas.Grind.{common_steps}
use Rattle.vl_elab_names.specs.Known.{contains}
use Rattle.vl_elab_decls.specs.Clocks.{clocks_of, with_clock, with_port}
use Rattle.vl_elab_decls.proofs.clocks.all_clocks.Goals as goal

pub loop-port-init : goal.loop-port-init
loop-port-init c other =
    λ i. clocks_of c.args.inputs.now None c.args.all.now (λ text. c.new-ports.ensures text i)
    (λ text. c.new-clocks.ensures text i) other

pub loop-port-preserved : goal.loop-port-preserved
loop-port-preserved c other =
    let rest = drop (c.loop-port.port-index + 1) c.args.all.now in
    let front : drop c.loop-port.port-index c.args.all.now ≡ c.port-item.result ∷ rest =
    grind (arith, common_steps) in
    (λ i. clocks_of c.args.inputs.now c.next_direction-last.result rest
    (λ text. c.in_ok-add_port.ensures.ports text i) (λ text. c.in_ok-add_port.ensures.clocks text i) other)
    ∙ (λ i. clocks_of c.args.inputs.now (c.next_direction-last.ensures i) rest
    (with_port (c.next_direction-last.ensures i) (c.port_text.ensures i) (contains c.loop-port.ports))
    (with_clock c.args.inputs.now (c.next_direction-last.ensures i) (c.port_text.ensures i)
    (contains c.loop-port.ports) (contains c.loop-port.clocks)) other)
    ∙ ap (λ xs. clocks_of c.args.inputs.now c.loop-port.last xs (contains c.loop-port.ports)
    (contains c.loop-port.clocks) other) (sym front)
    ∙ c.loop-port.invariant other

pub returns : goal.returns
returns c other =
    let gone : drop c.loop-port.port-index c.args.all.now ≡ [] = grind (arith, common_steps) in
    ap (λ xs. clocks_of c.args.inputs.now c.loop-port.last xs (contains c.loop-port.ports)
    (contains c.loop-port.clocks) other) (sym gone) ∙ c.loop-port.invariant other
