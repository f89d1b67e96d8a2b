-- Between functions: Groups of neighbouring cells. Rule of this project.
use Rattle.std.specs.Prelude.{◌≡◌, ℕ, ◌<◌, ◌≤◌, List, length, slice_get, Some}
use Rattle.std.proofs.Props.{props}

-- each cell has a group that ends behind it, and up to that end all have the same one
pub record AreGroups (of_cells ends : List ℕ) : Type 0 where
  pub known : (cell group : ℕ) → slice_get of_cells cell ≡ Some group → group < length ends
  pub before : (cell group past : ℕ) → slice_get of_cells cell ≡ Some group → slice_get ends group ≡ Some past
      → cell < past
  pub same : (cell other group past : ℕ) → slice_get of_cells cell ≡ Some group
      → slice_get ends group ≡ Some past → cell ≤ other → other < past → slice_get of_cells other ≡ Some group

pub groups_prop : (of_cells ends : List ℕ) → IsProp (AreGroups of_cells ends)
groups_prop of_cells ends = hlevel props
