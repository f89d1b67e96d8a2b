use Rattle.std.proofs.Common.{◌≡◌, ◌∙◌, ◌+◌, [], ◌∷◌, ap, sym, arith}
use Rattle.std.specs.Prelude.{drop, ◌||◌}
use Rattle.std.proofs.lemmas.Grind.{common_steps}
use Rattle.vl_elab_params.specs.Entered.{with_later, port_text, port_texts, is_full}
use Rattle.vl_elab_params.proofs.LaterNames.{later_append}
use Rattle.vl_elab_params.proofs.behind.add_ports.Goals as goal

pub loop-port-preserved : goal.loop-port-preserved
loop-port-preserved c =
    let rest = drop (c.loop-port.port-index + 1) c.args.all.now in
    let kind = c.port-item.result.kind in
    let next = c.loop-port.is_behind || is_full kind in
    let front : drop c.loop-port.port-index c.args.all.now ≡ c.port-item.result
    ∷ drop (c.loop-port.port-index + 1) c.args.all.now = grind (arith, common_steps) in
    (λ i. with_later (c.in_ok-is_behind.ensures.level i) (port_texts (c.in_ok-is_behind.ensures.behind i) rest))
    ∙ sym (later_append c.loop-port.level (port_text c.loop-port.is_behind kind) (port_texts next rest))
    ∙ ap (λ xs. with_later c.loop-port.level (port_texts c.loop-port.is_behind xs)) (sym front)
    ∙ c.loop-port.invariant

pub returns : goal.returns
returns c =
    let gone : drop c.loop-port.port-index c.args.all.now ≡ [] = grind (arith, common_steps) in
    ap (λ xs. with_later c.loop-port.level (port_texts c.loop-port.is_behind xs)) (sym gone) ∙ c.loop-port.invariant
