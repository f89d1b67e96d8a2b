-- Between functions: The entries of names, by the first cells of what is kept as memories. Rule of this project.
use Rattle.std.specs.Prelude.{◌≡◌, ℕ, ◌+◌, ◌==◌, List, [], ◌∷◌, ◌++◌, length, All, Bool, false, Option, Some, None}
use Rattle.std.specs.Prelude.{if◌then◌else◌, slice_get}
use Rattle.vl_size.specs.declared.decl.Decl.{Decl}
use Rattle.vl_mean.specs.Cells.{cells}
use Rattle.vl_mean.specs.FlatLaw.{IsKept}
use Rattle.vl_mean.specs.Parts.{Part}
use Rattle.vl_mean.specs.Scopes.{is_clock_class}
use Rattle.wn_net.specs.declared.names.NetName.{NetName}
use Rattle.vl_lower_cell_laws.specs.Entries.{all_entries, memory_entry, node_entries}
use Rattle.vl_lower_state.specs.Held.{memory_firsts}

abbrev pub is_some_of : Option ℕ → ℕ → Bool
is_some_of None first = false
is_some_of (Some x) first = x == first

-- the memory with this number has this first cell
abbrev pub is_first : List ℕ → ℕ → ℕ → Bool
is_first firsts m first = is_some_of (slice_get firsts m) first

-- the entries of a name, whose cells stand from a number on, where so many memories stand before it
abbrev pub name_entries : List ℕ → Decl → List ℕ → ℕ → ℕ → List NetName
name_entries firsts d nodes first m =
    if is_clock_class d.class then []
    else (if is_first firsts m first then memory_entry d m ∷ [] else node_entries d nodes first (cells d))

abbrev pub next_memory : List ℕ → Decl → ℕ → ℕ → ℕ
next_memory firsts d first m =
    if is_clock_class d.class then m else (if is_first firsts m first then m + 1 else m)

abbrev pub entries_by : List ℕ → List Decl → List ℕ → ℕ → ℕ → List NetName
entries_by firsts [] nodes first m = []
entries_by firsts (d ∷ ds) nodes first m =
    name_entries firsts d nodes first m
    ++ entries_by firsts ds nodes (first + length (cells d)) (next_memory firsts d first m)

-- ---- the law: they are the entries of the design's names

abbrev pub EntriesAreThose : Type 0
EntriesAreThose =
    (ds : List Decl) (ps : List Part) (firsts nodes : List ℕ) → All IsKept ds → firsts ≡ memory_firsts ps ds 0
    → entries_by firsts ds nodes 0 0 ≡ all_entries ps ds nodes 0 0
