-- Meaning: Where a design's drivers stand, step by step, in the order of the drivers among its parts: a continuous
-- assignment and a block at their item, a port connection at the connection, the value in a declaration at the
-- declared name. Refusals of drivers are told at these places. Rule of this project.
use Rattle.std.specs.Prelude.{List, [], ◌∷◌, ◌++◌, ℕ, map}
use Rattle.fv_text.specs.declared.pos.Pos.{Pos}
use Rattle.vl_tree.specs.declared.declaration.DeclaredName.{DeclaredName}
use Rattle.vl_tree.specs.declared.declaration.NetKind.{NetKind}
use Rattle.vl_tree.specs.declared.declaration.NetKind.TheVariants as net
use Rattle.vl_tree.specs.declared.source.Module.{Module}
use Rattle.vl_tree.specs.Item.{Item, declaration, integer, assign, always}
use Rattle.vl_mean.specs.declared.driver.Driver.{Driver}
use Rattle.vl_mean.specs.Declarations.{port_name_pos, port_named, ports_of}
use Rattle.vl_mean.specs.Parts.{Part, declares, equation, combinational, clocked, starts}
use Rattle.vl_mean.specs.Parts.{assignments, block_part, optional_value, port_kind, port_part}
use Rattle.vl_mean.specs.Scopes.{Scope}
use Rattle.vl_mean.specs.Walk.{Step, header, port, item, override, connection, block_step, walk}

-- the places of the drivers among parts that all stand at one place
abbrev pub all_at : Pos → List Part → List Pos
all_at p [] = []
all_at p (declares d ∷ ps) = all_at p ps
all_at p (equation ts l ss e ∷ ps) = p ∷ all_at p ps
all_at p (combinational ss s ∷ ps) = p ∷ all_at p ps
all_at p (clocked ss s ∷ ps) = p ∷ all_at p ps
all_at p (starts ss l e ∷ ps) = all_at p ps

-- of the values of names that are declared together, each at its name
abbrev pub value_places : List Scope → NetKind → List DeclaredName → List Pos
value_places ss kind [] = []
value_places ss kind (x ∷ xs) = all_at x.pos (optional_value ss kind x.name x.value) ++ value_places ss kind xs

-- the other items have no drivers by themselves
abbrev pub item_places : List Scope → Item → List Pos
item_places ss (declaration attrs p d) = value_places ss d.net d.names
item_places ss (integer attrs p xs) = value_places ss net.Reg xs
item_places ss (assign attrs p xs) = all_at p (assignments ss xs)
item_places ss (always attrs p event s) = all_at p (block_part ss event.kind s ∷ [])
item_places ss x = []

abbrev pub places_of_step : Step → List Pos
places_of_step (header at x) = []
places_of_step (port at u p q) =
    all_at (port_name_pos p) (optional_value at.scopes (port_kind q.net) q.name q.value)
places_of_step (item at x) = item_places at.scopes x
places_of_step (override at m u given x) = []
places_of_step (block_step at b) = []
places_of_step (connection at m u inside given x) =
    all_at x.pos (port_part at.scopes inside (port_named (ports_of m.ports) x.port) x.value)

abbrev pub places_of_steps : List Step → List Pos
places_of_steps [] = []
places_of_steps (x ∷ xs) = places_of_step x ++ places_of_steps xs

-- of all drivers of the design with this top module
abbrev pub driver_places : List Module → List ℕ → List Pos
driver_places ms top = places_of_steps (walk ms top)

-- where drivers stand
abbrev pub places_of : List Driver → List Pos
places_of xs = map (λ x. x.pos) xs
