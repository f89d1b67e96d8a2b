-- Between functions: Numbers of sources, and the inputs of a graph that are their bits (rule of this project).
use Rattle.std.specs.Prelude.{◌≡◌, ℕ, zero, suc, ◌+◌, ◌*◌, ◌<◌, Bool, List, [], ◌∷◌}
use Rattle.std.specs.Prelude.{◌++◌, length, slice_get, Some}
use Rattle.bb_aig.specs.declared.node.AigNode.{AigNode}
use Rattle.bb_aig.specs.declared.node.AigNode.TheVariants as n
use Rattle.bb_aig.specs.Graph.{lit_at, inputs_of}
use Rattle.bb_aig.specs.Bits.{number}
use Rattle.bb_blast.specs.declared.places.Placed.{Placed}

-- so many values of inputs, from the input `at` on
abbrev pub bits_from : (ℕ → Bool) → ℕ → ℕ → List Bool
bits_from x at zero = []
bits_from x at (suc w) = x at ∷ bits_from x (at + 1) w

-- The numbers of sources of these widths, whose bits are the inputs from `at` on: source after source, and of each the
-- lowest bit first.
abbrev pub numbers_from : (ℕ → Bool) → ℕ → List ℕ → List ℕ
numbers_from x at [] = []
numbers_from x at (w ∷ ws) = number (bits_from x at w) ∷ numbers_from x (at + w) ws

abbrev pub numbers_of : List ℕ → (ℕ → Bool) → List ℕ
numbers_of widths x = numbers_from x 0 widths

-- the literals of so many inputs, in a graph whose first nodes are inputs
abbrev pub literals_from : ℕ → ℕ → List ℕ
literals_from at zero = []
literals_from at (suc w) = 2 * (at + 1) ∷ literals_from (at + 1) w

abbrev pub table_from : ℕ → List ℕ → List (List ℕ)
table_from at [] = []
table_from at (w ∷ ws) = literals_from at w ∷ table_from (at + w) ws

-- which bit of which source each of these inputs is
abbrev pub places_from : ℕ → ℕ → ℕ → ℕ → List Placed
places_from source bit at zero = []
places_from source bit at (suc w) =
    record { source = source; bit = bit; node = at + 1 } ∷ places_from source (bit + 1) (at + 1) w

abbrev pub all_places : ℕ → ℕ → List ℕ → List Placed
all_places source at [] = []
all_places source at (w ∷ ws) = places_from source 0 at w ++ all_places (source + 1) (at + w) ws

-- input i is node i + 1, and its literal has the value of the input
pub record InputsAreFirst (graph : List AigNode) : Type 0 where
  pub nodes : (i : ℕ) → i < inputs_of graph → slice_get graph (i + 1) ≡ Some (n.Input i)
  pub value : (x : ℕ → Bool) (i : ℕ) → i < inputs_of graph → lit_at graph x (2 * (i + 1)) ≡ x i

-- the nodes behind the first one are inputs alone, in order
pub record HasInputsAlone (graph : List AigNode) : Type 0 where
  pub each : length graph ≡ inputs_of graph + 1
  pub inputs : InputsAreFirst graph
