-- Between functions: Names of a net, in the net that was built anew (rule of this project).
use Rattle.std.specs.Prelude.{ℕ, ◌+◌, ◌<◌, [], map}
use Rattle.wn_net.specs.declared.names.Place.{Place}
use Rattle.wn_net.specs.declared.names.Place.TheVariants as place
use Rattle.wn_net.specs.declared.names.NetName.{NetName}
use Rattle.wn_net.specs.declared.names.Names.{Names}

-- a node whose number is higher, or a memory
abbrev pub moved_place : ℕ → Place → Place
moved_place more (place.Node id) = place.Node (id + more)
moved_place more (place.Mem m) = place.Mem m

abbrev pub moved_name : ℕ → NetName → NetName
moved_name more name = record name { place = moved_place more name.place }

-- the number of a node is below a bound
abbrev pub IsBelow : ℕ → Place → Type 0
IsBelow bound (place.Node id) = id < bound
IsBelow bound (place.Mem m) = Unit {0}

-- with no spots
abbrev pub moved_names : ℕ → Names → Names
moved_names more names = record {
  list = map (moved_name more) names.list;
  inputs = [];
  regs = [];
  mems = [];
}
