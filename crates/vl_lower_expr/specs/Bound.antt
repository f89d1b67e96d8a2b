-- Between functions: Where the numbers of declared names stand while a design is lowered. Rule of this project.
use Rattle.std.specs.Prelude.{◌≡◌, ℕ, ◌+◌, ◌<◌, ◌≤◌, List}
use Rattle.std.specs.Prelude.{length, slice_get, slice_index, Some, None, MatchOption, IfSome, ℤ, int_le}
use Rattle.vl_size.specs.declared.decl.Decl.{Decl}
use Rattle.vl_size.specs.Size.{Cells}
use Rattle.vl_size.specs.Table.{IsShaped, span}
use Rattle.vl_mean.specs.FlatLaw.{IsKept, name_count}
use Rattle.wn_net.specs.Value.{Given, word_at, words_of}
use Rattle.wn_net.specs.Net.{Netlist, IsNodeOf, value_at}
use Rattle.wn_net.specs.declared.parts.Mem.{Mem}
use Rattle.vl_flow_cells.specs.Places.{index_at}
use Rattle.vl_lower_nodes.specs.Points.{past}
use Rattle.vl_lower_expr.specs.declared.place.Place.{Place}
use Rattle.vl_lower_expr.specs.declared.place.Place.TheVariants as place
use Rattle.vl_lower_expr.specs.declared.bindings.Bindings.{Bindings}

-- declarations, a place for each, and the nodes in the cells
pub record Bound : Type 0 where
  pub decls : List Decl
  pub places : List Place
  pub cells : List ℕ

-- what contracts see of bindings
abbrev pub bound : Bindings → Bound
bound names = record { decls = names.decls.now; places = names.places.now; cells = names.cells.now }

-- the index of a memory's word, counted from its left bound
abbrev pub word_index : ℤ × ℤ → ℕ → ℤ
word_index bounds k = index_at (int_le bounds.0 bounds.1) bounds.0 k

-- a node of the width stands in the cell
abbrev pub HasCell : Netlist → List ℕ → ℕ → ℕ → Type 0
HasCell net cells width at = MatchOption (slice_get cells at) ⊥ (IsNodeOf net width)

-- so many words of the width are in the memory of this number
abbrev pub IsMemoryIn : List Mem → ℕ → ℕ → ℤ × ℤ → Type 0
IsMemoryIn ms m width bounds = MatchOption (slice_get ms m) ⊥ (λ memory.
    (memory.width ≡ width) × (memory.words ≡ span bounds.0 bounds.1))

-- the declaration fits the place: a vector has a cell, and a memory a cell for each word or a memory of the net
abbrev pub FitsPlace : Netlist → List ℕ → Decl → Place → Type 0
FitsPlace net cells d (place.Vector at) = (d.words ≡ None) × HasCell net cells d.width at
FitsPlace net cells d (place.Words at) =
    MatchOption d.words ⊥ (λ bounds. (k : ℕ) → k < span bounds.0 bounds.1 → HasCell net cells d.width (at + k))
FitsPlace net cells d (place.Memory m) = MatchOption d.words ⊥ (IsMemoryIn net.mems m d.width)

-- a declaration of a lawful design, with few words, fits its place
pub record IsPlaced (net : Netlist) (cells : List ℕ) (d : Decl) (p : Place) : Type 0 where
  pub shaped : IsShaped d
  pub kept : IsKept d
  pub few : name_count d.words ≤ past
  pub fits : FitsPlace net cells d p

-- the declaration is one of them, and has this place
abbrev pub HasPlace : Bound → Decl → Place → Type 0
HasPlace names d p = (i : ℕ) × ((slice_get names.decls i ≡ Some d) × (slice_get names.places i ≡ Some p))

-- each declaration has its place
pub record AreBound (net : Netlist) (names : Bound) : Type 0 where
  pub each : length names.places ≡ length names.decls
  pub placed : (d : Decl) (p : Place) → HasPlace names d p → IsPlaced net names.cells d p

-- in a cycle the numbers at the place are those that a map has for the name
abbrev pub HasNumber : Netlist → Given → Cells → List ℕ → Decl → Place → Type 0
HasNumber net g v cells d (place.Vector at) = v d.name None ≡ value_at net g (slice_index cells at)
HasNumber net g v cells d (place.Words at) = IfSome d.words (λ bounds. (k : ℕ) → k < span bounds.0 bounds.1
    → v d.name (Some (word_index bounds k)) ≡ value_at net g (slice_index cells (at + k)))
HasNumber net g v cells d (place.Memory m) = IfSome d.words (λ bounds. (k : ℕ) → k < span bounds.0 bounds.1
    → v d.name (Some (word_index bounds k)) ≡ word_at (words_of g m) k)

-- and so for each name
abbrev pub HaveNumbers : Netlist → Given → Cells → Bound → Type 0
HaveNumbers net g v names = (d : Decl) (p : Place) → HasPlace names d p → HasNumber net g v names.cells d p
