-- Between functions: Literals, each once, with the place of each. Rule of this project.
use Rattle.std.specs.Prelude.{ℕ, ◌+◌, ◌<◌, ◌≡◌, List, ℤ, length}
use Rattle.lrat_check.specs.Sets.{AreLits}
use Rattle.sat_trail.specs.Trail.{place_of}
use Rattle.sat_propagate.specs.Watches.{lit_at}

-- one above the place of each literal in the list is its number; no other has one
pub record ArePlaced (set : List ℤ) (places : List ℕ) : Type 0 where
  pub all_lits : AreLits set
  pub at : (index : ℕ) → index < length set → place_of places (lit_at set index) ≡ index + 1
  pub of : (lit : ℤ) (index : ℕ) → place_of places lit ≡ index + 1
      → (index < length set) × (lit_at set index ≡ lit)
