-- Between functions: Of which cells the registers and memories of a design are, in the order in which the names come
-- to them. Rule of this project.
use Rattle.std.specs.Prelude.{ℕ, ◌+◌, List, [], ◌∷◌, ◌++◌, length, map, if◌then◌else◌}
use Rattle.vl_size.specs.declared.decl.Class.{Class}
use Rattle.vl_size.specs.declared.decl.Class.TheVariants as class
use Rattle.vl_size.specs.declared.decl.Decl.{Decl}
use Rattle.vl_mean.specs.Cells.{cells}
use Rattle.vl_mean.specs.Parts.{Part}
use Rattle.vl_lower_cell_laws.specs.Keeps.{Kept, registers_of}
use Rattle.vl_lower_cell_laws.specs.Entries.{is_memory}
use Rattle.vl_lower_cell_laws.specs.Listing.{Keeping}

-- the cell of each register of cells from a number on
abbrev pub cell_places : Keeping → ℕ → ℕ → List (List ℕ) → List ℕ
cell_places keep width first [] = []
cell_places keep width first (text ∷ texts) =
    map (λ (x : Kept). first) (registers_of (keep first) width) ++ cell_places keep width (first + 1) texts

abbrev pub places_in : List Part → Keeping → Decl → Class → ℕ → List ℕ
places_in ps keep d class.Variable first = if is_memory ps d then [] else cell_places keep d.width first (cells d)
places_in ps keep d c first = []

-- the cell of each register
abbrev pub register_places : List Part → Keeping → List Decl → ℕ → List ℕ
register_places ps keep [] first = []
register_places ps keep (d ∷ ds) first =
    places_in ps keep d d.class first ++ register_places ps keep ds (first + length (cells d))

abbrev pub firsts_in : List Part → Decl → Class → ℕ → List ℕ
firsts_in ps d class.Variable first = if is_memory ps d then first ∷ [] else []
firsts_in ps d c first = []

-- the first cell of each memory
abbrev pub memory_firsts : List Part → List Decl → ℕ → List ℕ
memory_firsts ps [] first = []
memory_firsts ps (d ∷ ds) first = firsts_in ps d d.class first ++ memory_firsts ps ds (first + length (cells d))
