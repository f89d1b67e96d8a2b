-- Between functions: Where bits are put: at a place that is known, or at one that the numbers of a cycle give. Rule of
-- this project.
use Rattle.std.specs.Prelude.{◌≡◌, true, ℤ}
use Rattle.wn_net.specs.Value.{Given}
use Rattle.wn_net.specs.Net.{Netlist, IsNode, value_at}
use Rattle.vl_lower_nodes.specs.Points.{GivePlace, is_place}
use Rattle.vl_lower_assign.specs.declared.spread.BitPlace.{BitPlace}
use Rattle.vl_lower_assign.specs.declared.spread.BitPlace.TheVariants as place

-- no index of a bound is so far, and the nodes are there
abbrev pub IsPlaceIn : Netlist → BitPlace → Type 0
IsPlaceIn net (place.Fixed q) = is_place q ≡ true
IsPlaceIn net (place.Varying v) = IsNode net v.up × IsNode net v.down

-- in a cycle it is this place
abbrev pub IsAt : Netlist → Given → BitPlace → ℤ → Type 0
IsAt net g (place.Fixed q) p = q ≡ p
IsAt net g (place.Varying v) p = GivePlace (value_at net g v.up) (value_at net g v.down) p
