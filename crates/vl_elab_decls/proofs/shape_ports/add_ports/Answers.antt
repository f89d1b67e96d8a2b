use Rattle.std.proofs.Common.{◌≡◌, ◌∙◌, ◌+◌, [], ◌∷◌, ap, sym, arith}
use Rattle.std.specs.Prelude.{drop}
use Rattle.std.proofs.lemmas.Grind.{common_steps}
use Rattle.vl_elab_decls.specs.Objects.{with_ports, with_port, port_text}
use Rattle.vl_elab_decls.proofs.Bounded.{form_fits}
use Rattle.vl_elab_decls.proofs.shape_ports.add_ports.Goals as goal

pub loop-port-preserved : goal.loop-port-preserved
loop-port-preserved c =
    let ns = c.args.names.now in
    let inputs = c.args.inputs.now in
    let rest = drop (c.loop-port.port-index + 1) c.args.all.now in
    let kind = c.port-item.result.kind in
    let level = c.loop-port.level in
    let front : drop c.loop-port.port-index c.args.all.now ≡ c.port-item.result
    ∷ drop (c.loop-port.port-index + 1) c.args.all.now = grind (arith, common_steps) in
    record {
      fits = form_fits ns c.loop-port.last kind c.in_ok-last.last c.in_ok-last.ensures c.loop-port.invariant.fits;
      names =
          ap (λ l. with_ports ns inputs l c.in_ok-last.last rest)
          (c.in_ok-add_port.ensures ∙ ap (with_port inputs level c.in_ok-last.last) c.port_text.ensures)
          ∙ (λ i. with_ports ns inputs (with_port inputs level (c.in_ok-last.ensures i) (port_text kind))
          (c.in_ok-last.ensures i) rest)
          ∙ ap (λ xs. with_ports ns inputs level c.loop-port.last xs) (sym front) ∙ c.loop-port.invariant.names;
    }

pub returns : goal.returns
returns c =
    let gone : drop c.loop-port.port-index c.args.all.now ≡ [] = grind (arith, common_steps) in
    ap (λ xs. with_ports c.args.names.now c.args.inputs.now c.loop-port.level c.loop-port.last xs) (sym gone)
    ∙ c.loop-port.invariant.names
