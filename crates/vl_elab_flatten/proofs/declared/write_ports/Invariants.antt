use Rattle.std.specs.Prelude.{drop}
use Rattle.vl_elab_flatten.specs.PortParts.{placed_ports}
use Rattle.vl_elab_flatten.proofs.Written.{PortsLeft}
use Rattle.vl_elab_flatten.proofs.declared.write_ports.Given as goal

abbrev pub invariant-loop-port : goal.invariant-loop-port
invariant-loop-port l =
    PortsLeft l.scopes l.path l.fn.draft (placed_ports l.scopes l.path l.decls l.all) l.draft l.last l.rest
    (drop l.port-index l.all)
