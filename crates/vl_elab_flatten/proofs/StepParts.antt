-- The parts of the steps of a module's head, and of what an instance joins to it, in their places.
use Rattle.std.specs.Prelude.{◌≡◌, refl, ℕ, List, [], ◌∷◌, ◌++◌, Option, Some, None, option_to_list}
use Rattle.std.proofs.Common.{ap}
use Rattle.fv_text.specs.declared.pos.Pos.{Pos}
use Rattle.vl_tree.specs.declared.declaration.FullPort.{FullPort}
use Rattle.vl_tree.specs.declared.declaration.Parameter.{Parameter}
use Rattle.vl_tree.specs.declared.declaration.Port.{Port}
use Rattle.vl_tree.specs.declared.declaration.PortKind.{PortKind}
use Rattle.vl_tree.specs.declared.declaration.PortKind.TheVariants as kind
use Rattle.vl_tree.specs.declared.part.Connection.{Connection}
use Rattle.vl_tree.specs.declared.source.Module.{Module}
use Rattle.vl_mean.specs.Declarations.{declared_ports, full_port, full_ports, port_decl, port_named, ports_of}
use Rattle.vl_mean.specs.Parts.{declares_all, optional_value, parts_of_steps, port_kind, port_part}
use Rattle.vl_mean.specs.Scopes.{Scope}
use Rattle.vl_mean.specs.Walk.{
  Place,
  Use,
  connection_steps,
  header_steps,
  optional_name,
  override_steps,
  port_step,
  port_steps,
  with_earlier,
}
use Rattle.vl_mean_flat.specs.DriverPlaces.{all_at, places_of_steps}
use Rattle.vl_elab_emit.specs.Behind.{placed_steps, unplaced}
use Rattle.vl_elab_flatten.specs.PortParts.{
  all_connection_parts,
  all_port_parts,
  connection_parts,
  connection_places,
  kind_of,
  placed_connections,
  port_places,
}

header_parts : (at : Place) (xs : List Parameter) → parts_of_steps (header_steps at xs) ≡ []
header_parts at [] = refl
header_parts at (x ∷ xs) = header_parts (with_earlier at (x.name ∷ [])) xs

override_parts : (at : Place) (m : Module) (u : Use) (given : List (List ℕ)) (xs : List Connection)
    → parts_of_steps (override_steps at m u given xs) ≡ []
override_parts at m u given [] = refl
override_parts at m u given (x ∷ xs) = override_parts at m u (given ++ x.port ∷ []) xs

connections_parts : (at : Place) (m : Module) (u : Use) (inside : List Scope) (given : List (List ℕ))
    (xs : List Connection)
    → parts_of_steps (connection_steps at m u inside given xs) ≡ all_connection_parts at.scopes inside m xs
connections_parts at m u inside given [] = refl
connections_parts at m u inside given (x ∷ xs) =
    ap (λ ps. port_part at.scopes inside (port_named (ports_of m.ports) x.port) x.value ++ ps)
    (connections_parts at m u inside (given ++ x.port ∷ []) xs)

-- behind a port that is written so
pub ports_parts : (at : Place) (u : Use) (last : Option FullPort) (ps : List Port)
    → parts_of_steps (port_steps at u last ps)
    ≡ all_port_parts at.scopes at.path (declared_ports at.around u.is_top u.input (full_ports last ps))
    (full_ports last ps)
ports_parts at u last [] = refl
ports_parts at u last (p ∷ ps) = by (full_port last p.kind) (λ at q. ports_parts at u q ps)
  where
    by : (q : Option FullPort)
        → ((at : Place) (q : Option FullPort) → parts_of_steps (port_steps at u q ps)
        ≡ all_port_parts at.scopes at.path (declared_ports at.around u.is_top u.input (full_ports q ps))
        (full_ports q ps))
        → parts_of_steps (port_step at u p q ++ port_steps (with_earlier at (optional_name q)) u q ps)
        ≡ all_port_parts at.scopes at.path
        (declared_ports at.around u.is_top u.input (option_to_list q ++ full_ports q ps))
        (option_to_list q ++ full_ports q ps)
    by None f = f (with_earlier at []) None
    by (Some q) f =
        ap (λ ps. (declares_all at.path (port_decl at.around u.is_top u.input q ∷ [])
        ++ optional_value at.scopes (port_kind q.net) q.name q.value) ++ ps)
        (f (with_earlier at (q.name ∷ [])) (Some q))

-- ---- where they stand

header_places : (at : Place) (xs : List Parameter) → places_of_steps (header_steps at xs) ≡ []
header_places at [] = refl
header_places at (x ∷ xs) = header_places (with_earlier at (x.name ∷ [])) xs

override_places : (at : Place) (m : Module) (u : Use) (given : List (List ℕ)) (xs : List Connection)
    → places_of_steps (override_steps at m u given xs) ≡ []
override_places at m u given [] = refl
override_places at m u given (x ∷ xs) = override_places at m u (given ++ x.port ∷ []) xs

connections_places : (at : Place) (m : Module) (u : Use) (inside : List Scope) (given : List (List ℕ))
    (xs : List Connection)
    → places_of_steps (connection_steps at m u inside given xs) ≡ connection_places at.scopes inside m xs
connections_places at m u inside given [] = refl
connections_places at m u inside given (x ∷ xs) =
    ap (λ ps. all_at x.pos (connection_parts at.scopes inside m x) ++ ps)
    (connections_places at m u inside (given ++ x.port ∷ []) xs)

abbrev port_at : Pos → PortKind → Port
port_at p k = record { pos = p; kind = k }

-- a port before others
one_port : (at : Place) (u : Use) (p : Pos) (k : PortKind) (last : Option FullPort) (ps : List Port)
    → ((at : Place) (q : Option FullPort) → places_of_steps (port_steps at u q ps)
    ≡ port_places at.scopes at.path (declared_ports at.around u.is_top u.input (full_ports q ps)) (kind_of q) ps)
    → places_of_steps (port_steps at u last (port_at p k ∷ ps))
    ≡ port_places at.scopes at.path
    (declared_ports at.around u.is_top u.input (full_ports last (port_at p k ∷ ps))) (kind_of last)
    (port_at p k ∷ ps)
one_port at u p (kind.Full q) last ps f =
    ap (λ qs. all_at q.name_pos (optional_value at.scopes (port_kind q.net) q.name q.value) ++ qs)
    (f (with_earlier at (q.name ∷ [])) (Some q))
one_port at u p (kind.Short text value) None ps f = f (with_earlier at []) None
one_port at u p (kind.Short text value) (Some q) ps f =
    ap (λ qs. all_at p (optional_value at.scopes (port_kind q.net) text value) ++ qs)
    (f (with_earlier at (text ∷ [])) (Some (record q { name = text; value = value })))

-- behind a port that is written so
pub ports_places : (at : Place) (u : Use) (last : Option FullPort) (ps : List Port)
    → places_of_steps (port_steps at u last ps)
    ≡ port_places at.scopes at.path (declared_ports at.around u.is_top u.input (full_ports last ps)) (kind_of last) ps
ports_places at u last [] = refl
ports_places at u last (p ∷ ps) = one_port at u p.pos p.kind last ps (λ at q. ports_places at u q ps)

-- ---- both

pub placed_headers : (at : Place) (xs : List Parameter) → placed_steps (header_steps at xs) ≡ unplaced []
placed_headers at xs = λ i. record { parts = header_parts at xs i; places = header_places at xs i }

pub placed_overrides : (at : Place) (m : Module) (u : Use) (given : List (List ℕ)) (xs : List Connection)
    → placed_steps (override_steps at m u given xs) ≡ unplaced []
placed_overrides at m u given xs = λ i. record {
  parts = override_parts at m u given xs i;
  places = override_places at m u given xs i;
}

pub placed_joins : (at : Place) (m : Module) (u : Use) (inside : List Scope) (given : List (List ℕ))
    (xs : List Connection)
    → placed_steps (connection_steps at m u inside given xs) ≡ placed_connections at.scopes inside m xs
placed_joins at m u inside given xs = λ i. record {
  parts = connections_parts at m u inside given xs i;
  places = connections_places at m u inside given xs i;
}
