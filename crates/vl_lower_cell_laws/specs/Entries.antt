-- Between functions: The entries of a design's names in a net, over nodes for its cells. Rule of this project.
use Rattle.std.specs.Prelude.{◌≡◌, ℕ, ◌+◌, List, [], ◌∷◌, ◌++◌, length, Bool, not, ◌&&◌, None, is_none, slice_get, Some}
use Rattle.std.specs.Prelude.{slice_index, if◌then◌else◌, true}
use Rattle.vl_size.specs.declared.decl.Decl.{Decl}
use Rattle.vl_size.specs.Size.{Values}
use Rattle.vl_mean.specs.declared.driver.Driver.{Driver}
use Rattle.vl_mean.specs.declared.driver.Start.{Start}
use Rattle.vl_mean.specs.Cells.{cells}
use Rattle.vl_mean.specs.FlatParts.{parts_of}
use Rattle.vl_mean.specs.Parts.{Part}
use Rattle.vl_mean.specs.Runs.{Agrees}
use Rattle.vl_mean.specs.Scopes.{is_clock_class}
use Rattle.vl_lower_assign.specs.Frames.{Stand}
use Rattle.vl_lower_spec.specs.Maps.{AreEntriesOf, is_split, listed, map_of}
use Rattle.wn_net.specs.declared.names.Names.{Names}
use Rattle.wn_net.specs.declared.names.NetName.{NetName}
use Rattle.wn_net.specs.declared.names.Place.TheVariants as place
use Rattle.wn_net.specs.Value.{Given, word_at, words_of}
use Rattle.wn_net.specs.Net.{Netlist}

-- a vector, or a word that stands by itself, at a node
abbrev pub node_entry : Decl → List ℕ → ℕ → NetName
node_entry d text id = record {
  text = text;
  width = d.width;
  place = place.Node id;
  output = d.output;
  words = None;
}

-- a memory by its number
abbrev pub memory_entry : Decl → ℕ → NetName
memory_entry d m = record {
  text = d.name;
  width = d.width;
  place = place.Mem m;
  output = d.output;
  words = d.words;
}

-- for each text an entry, at the nodes from a place on
abbrev pub node_entries : Decl → List ℕ → ℕ → List (List ℕ) → List NetName
node_entries d nodes first [] = []
node_entries d nodes first (text ∷ texts) =
    node_entry d text (slice_index nodes first) ∷ node_entries d nodes (first + 1) texts

-- it is kept as a memory of the net
abbrev pub is_memory : List Part → Decl → Bool
is_memory ps d = not (is_none d.words) && not (is_split ps d)

-- a name's entries, from a cell and a number of a memory on
abbrev pub entries_of : List Part → Decl → List ℕ → ℕ → ℕ → List NetName
entries_of ps d nodes first m =
    if is_memory ps d then memory_entry d m ∷ [] else node_entries d nodes first (cells d)

abbrev pub memories_of : List Part → Decl → ℕ
memories_of ps d = if is_memory ps d then 1 else 0

-- those of names in their order; the clock has none
abbrev pub all_entries : List Part → List Decl → List ℕ → ℕ → ℕ → List NetName
all_entries ps [] nodes first m = []
all_entries ps (d ∷ ds) nodes first m =
    let rest = all_entries ps ds nodes (first + length (cells d)) in
    if is_clock_class d.class then rest m else entries_of ps d nodes first m ++ rest (m + memories_of ps d)

-- ---- memories that have the numbers of a map

-- the words of memories, from a number on
abbrev pub MemoriesStand : List Part → Given → Values → List Decl → ℕ → Type 0
MemoriesStand ps g v [] m = Unit {0}
MemoriesStand ps g v (d ∷ ds) m =
    (is_memory ps d ≡ true → (j : ℕ) (n : List ℕ) → slice_get (cells d) j ≡ Some n → v n ≡ word_at (words_of g m) j)
    × MemoriesStand ps g v ds (m + (if is_clock_class d.class then 0 else memories_of ps d))

-- ---- the laws

-- they are one for each listed name
abbrev pub EntriesAreListed : Type 0
EntriesAreListed =
    (ds : List Decl) (drivers : List Driver) (starts : List Start) (nodes : List ℕ)
    → AreEntriesOf (listed (parts_of ds drivers starts)) (all_entries (parts_of ds drivers starts) ds nodes 0 0)

-- the map of names that they give is that which stands in the cells and the memories
abbrev pub EntriesAgree : Type 0
EntriesAgree =
    (ds : List Decl) (drivers : List Driver) (starts : List Start) (nodes : List ℕ) (net : Netlist) (names : Names)
    (g : Given) (v : Values) → names.list ≡ all_entries (parts_of ds drivers starts) ds nodes 0 0
    → Stand net g ds nodes v → MemoriesStand (parts_of ds drivers starts) g v ds 0
    → Agrees (parts_of ds drivers starts) (map_of net names g) v
