-- Between functions: The directions of a module's ports, by name. IEEE 1364-2005, section 12.3; that the first one of
-- a name counts is a rule of this project.
use Rattle.std.specs.Prelude.{◌≡◌, ℕ, List, [], ◌∷◌, Option, Some, None, bytes_eq, if◌then◌else◌}
use Rattle.std.specs.Map.{lookup}
use Rattle.vl_tree.specs.declared.declaration.Direction.{Direction}
use Rattle.vl_tree.specs.declared.declaration.FullPort.{FullPort}
use Rattle.vl_tree.specs.declared.declaration.Port.{Port}
use Rattle.vl_tree.specs.declared.source.Module.{Module}
use Rattle.vl_mean.specs.Declarations.{full_ports, port_named}
use Rattle.vl_mean.specs.Walk.{written_ports}
use Rattle.vl_elab_scope.specs.Texts.{or_else}
use Rattle.vl_elab_decls.specs.Clocks.{next_direction, port_text}
use Rattle.vl_elab_check_instance.specs.declared.ports.PortTable.{PortTable}

-- the direction that a table has for a name
abbrev pub direction_in : PortTable → List ℕ → Option Direction
direction_in table text = lookup (λ key. bytes_eq text key.items) table.directions.entries

-- of a port, if there is one
abbrev pub direction_of : Option FullPort → Option Direction
direction_of None = None
direction_of (Some p) = Some p.direction

-- the table is of these ports
abbrev pub AreDirections : PortTable → List Port → Type 0
AreDirections table ps = (text : List ℕ) → direction_in table text ≡ direction_of (port_named (full_ports None ps) text)

-- it is of the module
abbrev pub AreDirectionsOf : PortTable → Module → Type 0
AreDirectionsOf table m = AreDirections table (written_ports m.ports)

-- ---- port by port

-- of a port of this name
abbrev pub named_value : List ℕ → Direction → List ℕ → Option Direction
named_value text d other = if bytes_eq text other then Some d else None

-- a port that is written short behind no other is none
abbrev pub direction_if : Option Direction → List ℕ → List ℕ → Option Direction
direction_if None text other = None
direction_if (Some d) text other = named_value text d other

-- of the ports that are left, behind one of a direction
abbrev pub direction_behind : Option Direction → List Port → List ℕ → Option Direction
direction_behind last [] other = None
direction_behind last (p ∷ ps) other =
    let to = next_direction last p.kind in
    or_else (direction_if to (port_text p.kind) other) (direction_behind to ps other)
