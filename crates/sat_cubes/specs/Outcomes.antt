-- Between functions: What comes of all cubes, by what comes of each. Rule of this project.
use Rattle.std.specs.Prelude.{ℕ, ◌≡◌, List, map, slice_get, Some}
use Rattle.sat_cubes.specs.declared.part.Part.{Part}
use Rattle.sat_cubes.specs.declared.part.Part.TheVariants as part
use Rattle.sat_cubes.specs.declared.outcome.Outcome.{Outcome}
use Rattle.sat_cubes.specs.declared.outcome.Outcome.TheVariants.{Model, Refuted, Spent}

-- some cube has the model; or each cube has these steps; or some cube has used up its share
abbrev pub ComesTo : List Part → Outcome → Type 0
ComesTo parts (Model values) = (k : ℕ) × (slice_get parts k ≡ Some (part.Model values))
ComesTo parts (Refuted refutations) = map part.Refuted refutations.items ≡ parts
ComesTo parts Spent = (k : ℕ) × (slice_get parts k ≡ Some part.Spent)
