-- Between functions: The parts of an item by itself, from what is there as a design is written: the scopes in which
-- its names are read, the path of the innermost one, and what the item declares. IEEE 1364-2005, sections 6.1, 9.2 and
-- 9.9.
use Rattle.std.specs.Prelude.{ℕ, List, [], ◌∷◌, ◌++◌, Option, Some, None}
use Rattle.vl_tree.specs.declared.declaration.DeclaredName.{DeclaredName}
use Rattle.vl_tree.specs.declared.declaration.Direction.{Direction}
use Rattle.vl_tree.specs.declared.declaration.NetKind.{NetKind}
use Rattle.vl_tree.specs.declared.declaration.NetKind.TheVariants as net
use Rattle.vl_tree.specs.Expr.{Expr}
use Rattle.vl_tree.specs.Item.{Item, declaration, integer, assign, always, initial}
use Rattle.vl_size.specs.declared.decl.Decl.{Decl}
use Rattle.vl_mean.specs.Parts.{Part, assignments, block_part, connection_part, declares_all, initial_parts, values_of}
use Rattle.vl_mean.specs.Scopes.{Scope}
use Rattle.vl_mean_flat.specs.DriverPlaces.{item_places, value_places}
use Rattle.vl_elab_emit.specs.Behind.{Placed}

abbrev pub own_parts : List Scope → List ℕ → List Decl → Item → List Part
own_parts ss path ds (declaration attrs p d) = declares_all path ds ++ values_of ss d.net d.names
own_parts ss path ds (integer attrs p xs) = declares_all path ds ++ values_of ss net.Reg xs
own_parts ss path ds (assign attrs p xs) = assignments ss xs
own_parts ss path ds (always attrs p event s) = block_part ss event.kind s ∷ []
own_parts ss path ds (initial attrs p s) = initial_parts ss s
own_parts ss path ds x = []

-- in their places
abbrev pub own_placed : List Scope → List ℕ → List Decl → Item → Placed
own_placed ss path ds x = record { parts = own_parts ss path ds x; places = item_places ss x }

-- the values of names that are declared together, each at its name
abbrev pub placed_values : List Scope → NetKind → List DeclaredName → Placed
placed_values ss kind xs = record { parts = values_of ss kind xs; places = value_places ss kind xs }

-- what an instance joins to a port of this direction; None where its module has no port of the name
abbrev pub joined_part : List Scope → List Scope → Option Direction → List ℕ → Option Expr → List Part
joined_part ss inside to text None = []
joined_part ss inside None text (Some e) = []
joined_part ss inside (Some to) text (Some e) = connection_part ss inside to text e
