-- Meaning: The map of names to numbers that a net has in a cycle, by the names of a design, and back. Rule of this
-- project.
use Rattle.std.specs.Prelude.{◌≡◌, ℕ, zero, suc, ◌+◌, ◌*◌, if◌then◌else◌, List, [], ◌∷◌, ◌++◌, map}
use Rattle.std.specs.Prelude.{Bool, false, not, ◌&&◌, ◌||◌, Option, Some, None, is_none, position, bytes_eq, slice_get}
use Rattle.std.specs.List.{list_any}
use Rattle.vl_size.specs.declared.decl.Decl.{Decl}
use Rattle.vl_size.specs.Size.{Values}
use Rattle.vl_mean.specs.Cells.{cells, cells_of}
use Rattle.vl_mean.specs.Parts.{Part, declares}
use Rattle.vl_mean.specs.Runs.{initial_writes, is_driven, last_value}
use Rattle.vl_mean.specs.Scopes.{is_clock_class}
use Rattle.vl_mean.specs.Targets.{bit_of}
use Rattle.wn_net.specs.declared.names.Place.{Place}
use Rattle.wn_net.specs.declared.names.Place.TheVariants as place
use Rattle.wn_net.specs.declared.names.NetName.{NetName}
use Rattle.wn_net.specs.declared.names.Names.{Names}
use Rattle.wn_net.specs.declared.names.Spot.{Spot}
use Rattle.wn_net.specs.declared.parts.State.{State}
use Rattle.wn_net.specs.Value.{Given, word_at, words_of}
use Rattle.wn_net.specs.Net.{Netlist, value_at}
use Rattle.wn_net.specs.Given.{given}

-- ---- declared names and the entries of a net's names

-- whether one of the numbers below passes
abbrev pub some_below : (ℕ → Bool) → ℕ → Bool
some_below f zero = false
some_below f (suc n) = f n || some_below f n

-- A combinational block drives a bit of the word, or the word has a value at first in a part of its bits alone.
abbrev pub is_split_at : List Part → Decl → List ℕ → Bool
is_split_at ps d text =
    let first : ℕ → Bool = λ k. is_none (last_value (initial_writes ps) text k) in
    some_below (λ k. is_driven ps text k || (first k && not (first 0)) || (not (first k) && first 0)) d.width

-- A memory with such a word can't be kept as one: its words stand one by one.
abbrev pub is_split : List Part → Decl → Bool
is_split ps d = not (is_none d.words) && list_any (is_split_at ps d) (cells d)

-- the words of a memory as names by themselves
abbrev pub as_vectors : Decl → List (List ℕ) → List Decl
as_vectors d [] = []
as_vectors d (text ∷ texts) = record d { name = text; words = None } ∷ as_vectors d texts

abbrev pub listed_of : List Part → Decl → List Decl
listed_of ps d = if is_split ps d then as_vectors d (cells d) else d ∷ []

-- the declared names of some parts of a design in their order, the clock left out
abbrev pub listed_in : List Part → List Part → List Decl
listed_in whole [] = []
listed_in whole (declares d ∷ ps) =
    if is_clock_class d.class then listed_in whole ps else listed_of whole d ++ listed_in whole ps
listed_in whole (p ∷ ps) = listed_in whole ps

abbrev pub listed : List Part → List Decl
listed ps = listed_in ps ps

pub record IsEntryOf (d : Decl) (x : NetName) : Type 0 where
  pub text : x.text ≡ d.name
  pub width : x.width ≡ d.width
  pub output : x.output ≡ d.output
  pub words : x.words ≡ d.words

-- one entry for each name
abbrev pub AreEntriesOf : List Decl → List NetName → Type 0
AreEntriesOf [] [] = Unit {0}
AreEntriesOf (d ∷ ds) (x ∷ xs) = IsEntryOf d x × AreEntriesOf ds xs
AreEntriesOf ds xs = ⊥

-- ---- from numbers of a net to a map

-- the number of a place: of a memory that of the word so many places from its left bound
abbrev pub place_number : Netlist → Given → Place → ℕ → ℕ
place_number net g (place.Node id) k = value_at net g id
place_number net g (place.Mem m) k = word_at (words_of g m) k

-- by the place of a text among cells, or else another number
abbrev pub number_or : Option ℕ → (ℕ → ℕ) → ℕ → ℕ
number_or None f other = other
number_or (Some k) f other = f k

-- the first entry that has the text counts
abbrev pub map_in : Netlist → Given → List NetName → Values
map_in net g [] text = 0
map_in net g (x ∷ xs) text =
    number_or (position (bytes_eq text) (cells_of x.text x.words)) (place_number net g x.place) (map_in net g xs text)

abbrev pub map_of : Netlist → Names → Given → Values
map_of net names g = map_in net g names.list

-- ---- from a map to numbers of a net

-- the bits of a number, the lowest first
abbrev pub gathered : ℕ → List ℕ → ℕ
gathered x [] = 0
gathered x (b ∷ bs) = bit_of x b + 2 * gathered x bs

abbrev pub text_of : Option NetName → List ℕ
text_of None = []
text_of (Some x) = x.text

abbrev pub cells_named : Option NetName → List (List ℕ)
cells_named None = []
cells_named (Some x) = cells_of x.text x.words

-- the number of an input or a register: bits of a name
abbrev pub spot_number : Names → Values → Spot → ℕ
spot_number names v s = gathered (v (text_of (slice_get names.list s.name))) s.bits

abbrev pub state_of : Names → Values → State
state_of names v = record {
  regs = map (spot_number names v) names.regs;
  mems = map (λ m. map v (cells_named (slice_get names.list m))) names.mems;
}

abbrev pub inputs_of : Names → Values → List ℕ
inputs_of names v = map (spot_number names v) names.inputs

abbrev pub given_of : Names → Values → Given
given_of names v = given (inputs_of names v) (state_of names v)
