-- Between functions: Ports that are written short. IEEE 1364-2005, section 12.3.4.
use Rattle.std.specs.Prelude.{Option, Some}
use Rattle.vl_tree.specs.declared.declaration.FullPort.{FullPort}
use Rattle.vl_tree.specs.declared.declaration.PortKind.{PortKind}
use Rattle.vl_tree.specs.declared.declaration.PortKind.TheVariants as port
use Rattle.vl_tree.specs.Expr.{Expr}

-- the last port that says all, from which one that is written short takes what it doesn't say
abbrev pub next_full : Option FullPort → PortKind → Option FullPort
next_full last (port.Full p) = Some p
next_full last (port.Short text value) = last

abbrev pub port_value : PortKind → Option Expr
port_value (port.Full p) = p.value
port_value (port.Short text value) = value
