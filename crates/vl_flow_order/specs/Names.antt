-- Between functions: Declared names as bits: those of the numbers of their places. Rule of this project.
use Rattle.std.specs.Prelude.{◌≡◌, ℕ, ◌<◌, List, length, Bool, true, false, Some, slice_get}
use Rattle.vl_size.specs.declared.decl.Decl.{Decl}
use Rattle.vl_mean.specs.Cells.{contains_name}

-- under the number of each declared name's place, bit 0 tells whether it is one of these, and no other bit is there
pub record AreNames (ds : List Decl) (names : List (List ℕ)) (marks : ℕ → ℕ → Bool) : Type 0 where
  pub is : (place : ℕ) (d : Decl) → slice_get ds place ≡ Some d → marks place 0 ≡ contains_name names d.name
  pub known : (place : ℕ) → marks place 0 ≡ true → place < length ds
  pub alone : (place bit : ℕ) → 0 < bit → marks place bit ≡ false
