use Rattle.std.proofs.Common.{◌≡◌, false}
use Rattle.std.specs.Prelude.{drop}
use Rattle.vl_elab_params.specs.Entered.{with_later, port_texts}
use Rattle.vl_elab_params.proofs.behind.add_ports.Given as goal

abbrev pub invariant-loop-port : goal.invariant-loop-port
invariant-loop-port l =
    with_later l.level (port_texts l.is_behind (drop l.port-index l.all))
    ≡ with_later l.fn.level (port_texts false l.all)
