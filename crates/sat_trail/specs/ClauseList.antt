-- Between functions: Clauses by their places, one of which is taken out. Rules of this project.
use Rattle.std.specs.Prelude.{ℕ, ◌+◌, ◌-◌, ◌<◌, ◌≡◌, List, ℤ, length, slice_index_or}

-- the clause at the place is taken out, and the last one goes there
pub record TakenOut (old now : List (List ℤ)) (place : ℕ) (clause : List ℤ) : Type 0 where
  pub within : place < length old
  pub is : clause ≡ slice_index_or old place clause
  pub many : length now + 1 ≡ length old
  pub by_place : ((d : List ℤ) → place + 1 < length old
      → slice_index_or now place d ≡ slice_index_or old (length old - 1) d)
      × ((k : ℕ) (d : List ℤ) → (k ≡ place → ⊥) → k + 1 < length old
      → slice_index_or now k d ≡ slice_index_or old k d)
