-- Between functions: What is kept of numbered cells, from masks and numbers of them. Rule of this project.
use Rattle.std.specs.Prelude.{◌≡◌, ℕ, ◌<◌, List, length, slice_index}
use Rattle.vl_lower_cell_laws.specs.declared.keep.Keep.{Keep}
use Rattle.vl_lower.specs.Design.{keeping}

-- of each cell the bits that are driven, those that are known, and its number
pub record AreJoined (driven known values : List ℕ) (keeps : List Keep) : Type 0 where
  pub each : length keeps ≡ length driven
  pub same : (c : ℕ) → c < length driven
      → keeping keeps c
      ≡ record { driven = slice_index driven c; known = slice_index known c; value = slice_index values c }
