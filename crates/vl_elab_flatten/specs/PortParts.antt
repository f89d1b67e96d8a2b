-- Between functions: The parts of ports and of what is joined to them, and the places of the drivers among these, from
-- what is there as a design is written. IEEE 1364-2005, section 12.3.
use Rattle.std.specs.Prelude.{ℕ, List, [], ◌∷◌, ◌++◌, Option, Some, None}
use Rattle.fv_text.specs.declared.pos.Pos.{Pos}
use Rattle.vl_tree.specs.declared.declaration.FullPort.{FullPort}
use Rattle.vl_tree.specs.declared.declaration.NetKind.{NetKind}
use Rattle.vl_tree.specs.declared.declaration.Port.{Port}
use Rattle.vl_tree.specs.declared.declaration.PortKind.{PortKind}
use Rattle.vl_tree.specs.declared.declaration.PortKind.TheVariants as port
use Rattle.vl_tree.specs.declared.part.Connection.{Connection}
use Rattle.vl_tree.specs.declared.source.Module.{Module}
use Rattle.vl_tree.specs.Expr.{Expr}
use Rattle.vl_size.specs.declared.decl.Decl.{Decl}
use Rattle.vl_mean.specs.Declarations.{full_ports, port_name_pos, port_named, ports_of}
use Rattle.vl_mean.specs.Parts.{Part, declares_all, optional_value, port_kind, port_part}
use Rattle.vl_mean.specs.Scopes.{Scope}
use Rattle.vl_mean_flat.specs.DriverPlaces.{all_at}
use Rattle.vl_elab_decls.specs.Objects.{port_text}
use Rattle.vl_elab_emit.specs.Behind.{Placed}

-- what an instance joins to a port of its module
abbrev pub connection_parts : List Scope → List Scope → Module → Connection → List Part
connection_parts ss inside m x = port_part ss inside (port_named (ports_of m.ports) x.port) x.value

abbrev pub all_connection_parts : List Scope → List Scope → Module → List Connection → List Part
all_connection_parts ss inside m [] = []
all_connection_parts ss inside m (x ∷ xs) = connection_parts ss inside m x ++ all_connection_parts ss inside m xs

-- each at its connection
abbrev pub connection_places : List Scope → List Scope → Module → List Connection → List Pos
connection_places ss inside m [] = []
connection_places ss inside m (x ∷ xs) =
    all_at x.pos (connection_parts ss inside m x) ++ connection_places ss inside m xs

abbrev pub placed_connections : List Scope → List Scope → Module → List Connection → Placed
placed_connections ss inside m xs = record {
  parts = all_connection_parts ss inside m xs;
  places = connection_places ss inside m xs;
}

-- ---- ports

-- the kind of a port, if it is one
abbrev pub kind_of : Option FullPort → Option NetKind
kind_of None = None
kind_of (Some p) = Some (port_kind p.net)

-- of a port behind one of this kind, which one that is written short takes
abbrev pub next_net : Option NetKind → PortKind → Option NetKind
next_net last (port.Full p) = Some (port_kind p.net)
next_net last (port.Short text value) = last

abbrev pub port_value : PortKind → Option Expr
port_value (port.Full p) = p.value
port_value (port.Short text value) = value

-- a port that declares these
abbrev pub port_parts : List Scope → List ℕ → List Decl → NetKind → List ℕ → Option Expr → List Part
port_parts ss path ds net text value = declares_all path ds ++ optional_value ss net text value

-- of a port of this kind, if it is one, which declares the first one of these
abbrev pub first_parts : List Scope → List ℕ → List Decl → Option NetKind → List ℕ → Option Expr → List Part
first_parts ss path ds None text value = []
first_parts ss path [] (Some net) text value = []
first_parts ss path (d ∷ ds) (Some net) text value = port_parts ss path (d ∷ []) net text value

-- those that are left
abbrev pub behind_first : Option NetKind → List Decl → List Decl
behind_first None ds = ds
behind_first (Some net) [] = []
behind_first (Some net) (d ∷ ds) = ds

-- ports, of which each declares one
abbrev pub all_port_parts : List Scope → List ℕ → List Decl → List FullPort → List Part
all_port_parts ss path [] ps = []
all_port_parts ss path (d ∷ ds) [] = []
all_port_parts ss path (d ∷ ds) (p ∷ ps) =
    port_parts ss path (d ∷ []) (port_kind p.net) p.name p.value ++ all_port_parts ss path ds ps

-- the values of ports that are written behind one of this kind, each at its name
abbrev pub port_places : List Scope → List ℕ → List Decl → Option NetKind → List Port → List Pos
port_places ss path ds last [] = []
port_places ss path ds last (p ∷ ps) =
    let net = next_net last p.kind in
    all_at (port_name_pos p) (first_parts ss path ds net (port_text p.kind) (port_value p.kind))
    ++ port_places ss path (behind_first net ds) net ps

abbrev pub placed_ports : List Scope → List ℕ → List Decl → List Port → Placed
placed_ports ss path ds ps = record {
  parts = all_port_parts ss path ds (full_ports None ps);
  places = port_places ss path ds None ps;
}
