-- Between functions: What is seen of steps as a design is written: their parts, the places of the drivers among these,
-- and the scopes in which their names are read. Rule of this project.
use Rattle.std.specs.Prelude.{ℕ, List, [], ◌∷◌, ◌++◌, map}
use Rattle.fv_text.specs.declared.pos.Pos.{Pos}
use Rattle.vl_tree.specs.declared.source.Module.{Module}
use Rattle.vl_mean.specs.Parts.{Part, step_parts}
use Rattle.vl_mean.specs.Scopes.{Scope}
use Rattle.vl_mean.specs.Walk.{Contents, Place, Step, Unfolding, header, port, item, override, connection, block_step}
use Rattle.vl_mean.specs.Walk.{unfolded}
use Rattle.vl_mean_flat.specs.DriverPlaces.{places_of_step}

pub record Seen : Type 0 where
  pub parts : List Part
  pub places : List Pos
  pub scopes : List (List Scope)

-- of a connection also those of the module that it leads to
abbrev pub scopes_of : Step → List (List Scope)
scopes_of (header at x) = at.scopes ∷ []
scopes_of (port at u p q) = at.scopes ∷ []
scopes_of (item at x) = at.scopes ∷ []
scopes_of (override at m u given x) = at.scopes ∷ []
scopes_of (connection at m u inside given x) = at.scopes ∷ inside ∷ []
scopes_of (block_step at b) = at.scopes ∷ []

abbrev pub seen_step : Step → Seen
seen_step x = record { parts = step_parts x; places = places_of_step x; scopes = scopes_of x }

abbrev pub seen_steps : List Step → List Seen
seen_steps xs = map seen_step xs

abbrev pub parts_of_seen : List Seen → List Part
parts_of_seen [] = []
parts_of_seen (x ∷ xs) = x.parts ++ parts_of_seen xs

abbrev pub places_of_seen : List Seen → List Pos
places_of_seen [] = []
places_of_seen (x ∷ xs) = x.places ++ places_of_seen xs

-- a place with other contents, other names before it, and in other modules
abbrev pub beside : Place → List Contents → List (List ℕ) → List (List ℕ) → Place
beside at contents earlier modules = record at { contents = contents; earlier = earlier; modules = modules }

-- the steps of a module, with instances no deeper than the number
abbrev pub inner : ℕ → List Module → Unfolding
inner n ms m u path modules front = unfolded n ms m u path modules front
