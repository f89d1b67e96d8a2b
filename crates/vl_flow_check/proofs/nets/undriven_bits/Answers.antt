use Rattle.vl_flow_check.proofs.OpenBits.{undriven_are}
use Rattle.vl_flow_check.proofs.nets.undriven_bits.Goals as goal

pub returns : goal.returns
returns c drivers w =
    undriven_are c.args.decls.now drivers c.in_ok-drives.drives.items c.as_slice.result.now c.in_ok-nets.nets
    c.in_ok-driven.driven c.in_ok-without.field-0 c.in_ok-nets.ensures
    (c.in_ok-drives.ensures c.args.decls.now drivers w) c.as_slice.ensures.value c.in_ok-driven.ensures
    c.in_ok-without.ensures
