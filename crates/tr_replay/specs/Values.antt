-- Between functions: The values of names by those of nodes and the words of memories. Rule of this project.
use Rattle.std.specs.Prelude.{ℕ, List, [], ◌∷◌, slice_index}
use Rattle.std.specs.List.{flat_map}
use Rattle.wn_net.specs.declared.names.Place.{Place}
use Rattle.wn_net.specs.declared.names.Place.TheVariants as place
use Rattle.wn_net.specs.declared.names.NetName.{NetName}
use Rattle.wn_net.specs.Value.{words_at}

-- the value of a node, or those of a memory's words
abbrev pub values_by : List ℕ → List (List ℕ) → Place → List ℕ
values_by vs mems (place.Node id) = slice_index vs id ∷ []
values_by vs mems (place.Mem m) = words_at mems m

-- those of all names
abbrev pub all_by : List ℕ → List (List ℕ) → List NetName → List ℕ
all_by vs mems names = flat_map (λ n. values_by vs mems n.place) names
