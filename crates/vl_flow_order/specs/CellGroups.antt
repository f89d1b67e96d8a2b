-- Between functions: The cells of each declared name as one group, under the number of the name's place. Rule of this
-- project.
use Rattle.std.specs.Prelude.{◌≡◌, ℕ, suc, ◌+◌, ◌<◌, ◌≤◌, List, length, Some, slice_get, ◌⊎◌}
use Rattle.vl_size.specs.declared.decl.Decl.{Decl}
use Rattle.vl_flow_cells.specs.Numbered.{all_cells, first_cell}
use Rattle.vl_flow_order.specs.declared.reads_groups.Groups.{Groups}

-- the cell is one of the declaration at the place
abbrev pub IsCellAt : List Decl → ℕ → ℕ → Type 0
IsCellAt ds cell place = (first_cell ds place ≤ cell) × (cell < first_cell ds (suc place))

-- of the first declarations
pub record AreGroupsBelow (ds : List Decl) (count : ℕ) (of_cells ends : List ℕ) : Type 0 where
  pub cells : length of_cells ≡ first_cell ds count
  pub names : length ends ≡ count
  pub pasts : (place past : ℕ) → slice_get ends place ≡ Some past → past ≡ first_cell ds (suc place)
  pub known : (cell place : ℕ) → slice_get of_cells cell ≡ Some place → place < count
  pub of : (cell place : ℕ) → slice_get of_cells cell ≡ Some place → IsCellAt ds cell place

pub record AreGroupsOf (ds : List Decl) (groups : Groups) : Type 0 where
  pub below : AreGroupsBelow ds (length ds) groups.of_cells groups.ends
  pub cells : length groups.of_cells ≡ length (all_cells ds)

-- so many cells more are of the group, and the others as they were
pub record PutsCells (before : List ℕ) (group count : ℕ) (after : List ℕ) : Type 0 where
  pub size : length after ≡ length before + count
  pub of : (cell place : ℕ) → slice_get after cell ≡ Some place
      → (slice_get before cell ≡ Some place)
      ⊎ ((place ≡ group) × (length before ≤ cell) × (cell < length before + count))
