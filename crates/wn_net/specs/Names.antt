-- Meaning: When names are those of a net (rule of this project).
use Rattle.std.specs.Prelude.{
  ◌≡◌,
  ℕ,
  ◌+◌,
  ◌<◌,
  ◌≤◌,
  ◌==◌,
  Bool,
  false,
  Option,
  None,
  Some,
  MatchOption,
  List,
  [],
}
use Rattle.std.specs.Prelude.{◌∷◌, map, length, slice_index, slice_get, ℤ, ◌-ℤ◌, nat_abs}
use Rattle.std.specs.List.{AllByRecursion, IsDistinct}
use Rattle.std.specs.Str.{bytes_eq}
use Rattle.wn_net.specs.declared.names.Place.{Place}
use Rattle.wn_net.specs.declared.names.Place.TheVariants as place
use Rattle.wn_net.specs.declared.names.NetName.{NetName}
use Rattle.wn_net.specs.declared.names.Names.{Names}
use Rattle.wn_net.specs.declared.names.Spot.{Spot}
use Rattle.std.specs.Int.{bit_at}
use Rattle.wn_net.specs.Value.{Given}
use Rattle.wn_net.specs.Net.{Netlist, IsNodeOf, value_at}
use Rattle.wn_net.specs.Changes.{mem_width}

-- a range with so many places
abbrev pub IsRangeOf : ℕ → ℤ × ℤ → Type 0
IsRangeOf count range = nat_abs (range.0 -ℤ range.1) + 1 ≡ count

abbrev pub words_in : Netlist → ℕ → ℕ
words_in net m = slice_index (map (λ m. m.words) net.mems) m

-- The place is there with the width. A memory has a range of as many words, and is no output; a node has no range.
abbrev pub IsPlaced : Netlist → ℕ → Bool → Option (ℤ × ℤ) → Place → Type 0
IsPlaced net width output words (place.Node id) = IsNodeOf net width id × (words ≡ None)
IsPlaced net width output words (place.Mem m) =
    (m < length net.mems) × (mem_width net m ≡ width) × (output ≡ false)
    × MatchOption words ⊥ (IsRangeOf (words_in net m))

abbrev pub IsNameOf : Netlist → NetName → Type 0
IsNameOf net name = IsPlaced net name.width name.output name.words name.place

-- A spot says which bits of an entry that is there an input or a register of this width is: as many bits as that has,
-- each below the entry's width, none twice.
pub record IsSpotOf (names : Names) (width : ℕ) (spot : Spot) : Type 0 where
  pub name : NetName
  pub there : slice_get names.list spot.name ≡ Some name
  pub each : length spot.bits ≡ width
  pub within : AllByRecursion (λ b. b < name.width) spot.bits
  pub once : IsDistinct (λ (a b : ℕ). a == b) spot.bits

-- spots of the first inputs, or registers, by the widths of all
abbrev pub AreSpotsOf : Names → List ℕ → List Spot → Type 0
AreSpotsOf names ws [] = Unit {0}
AreSpotsOf names [] (s ∷ ss) = ⊥
AreSpotsOf names (w ∷ ws) (s ∷ ss) = IsSpotOf names w s × AreSpotsOf names ws ss

-- the entry at the place is the memory
pub record IsMemName (names : Names) (m at : ℕ) : Type 0 where
  pub name : NetName
  pub there : slice_get names.list at ≡ Some name
  pub place : name.place ≡ place.Mem m

-- entries of the memories from the number m on
abbrev pub AreMemNames : Names → ℕ → List ℕ → Type 0
AreMemNames names m [] = Unit {0}
AreMemNames names m (at ∷ rest) = IsMemName names m at × AreMemNames names (m + 1) rest

-- The condition that names are those of this net: each has its place there, no two have one text, and what is listed of
-- inputs, registers and memories are spots of them.
pub record AreNamesOf (net : Netlist) (names : Names) : Type 0 where
  pub placed : AllByRecursion (IsNameOf net) names.list
  pub differ : IsDistinct (λ (a b : NetName). bytes_eq a.text b.text) names.list
  pub inputs : AreSpotsOf names (map (λ i. i.width) net.inputs) names.inputs
  pub regs : AreSpotsOf names (map (λ r. r.width) net.regs) names.regs
  pub mems : AreMemNames names 0 names.mems
  pub few_mems : length names.mems ≤ length net.mems

-- each input, register and memory of the net has its entry
pub record HaveAll (net : Netlist) (names : Names) : Type 0 where
  pub inputs : length names.inputs ≡ length net.inputs
  pub regs : length names.regs ≡ length net.regs
  pub mems : length names.mems ≡ length net.mems

-- the number that a name has in a cycle; a memory has words in place of one
abbrev pub number_at : Netlist → Given → Place → ℕ
number_at net g (place.Node id) = value_at net g id
number_at net g (place.Mem m) = 0

-- the bits of a spot are the named ones: bit j of the input or register is the bit bits[j] of the name
abbrev pub IsShown : Netlist → Given → Names → ℕ → Spot → Type 0
IsShown net g names number spot =
    (name : NetName) → slice_get names.list spot.name ≡ Some name → (j : ℕ) → j < length spot.bits
    → bit_at number j ≡ bit_at (number_at net g name.place) (slice_index spot.bits j)

abbrev pub AreShown : Netlist → Given → Names → List ℕ → List Spot → Type 0
AreShown net g names numbers [] = Unit {0}
AreShown net g names [] (s ∷ ss) = ⊥
AreShown net g names (n ∷ ns) (s ∷ ss) = IsShown net g names n s × AreShown net g names ns ss

-- in this cycle the bits of all listed inputs and registers are the named ones
pub record ShowNames (net : Netlist) (names : Names) (g : Given) : Type 0 where
  pub inputs : AreShown net g names g.inputs names.inputs
  pub regs : AreShown net g names g.state.regs names.regs
