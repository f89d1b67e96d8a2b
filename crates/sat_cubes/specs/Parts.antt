-- Between functions: What comes of one cube, and how literals and counts are looked up. Rules of this project.
use Rattle.std.specs.Prelude.{
  ℕ,
  ◌+◌,
  ◌-◌,
  ◌^◌,
  ◌<◌,
  ◌≤◌,
  ◌≡◌,
  ◌⊎◌,
  true,
  false,
  not,
  ◌==◌,
  List,
  ℤ,
  pos,
}
use Rattle.std.specs.Prelude.{length, slice_get, slice_index_or, Some}
use Rattle.cnf_form.specs.Cnf.{Cnf, AreClauses, formula_true, value_of}
use Rattle.lrat_check.specs.Sets.{has}
use Rattle.lrat_check.specs.Steps.{Refutes, numbered}
use Rattle.sat_trail.specs.Trail.{is_assigned, place_of}
use Rattle.sat_search.specs.Added.{AreAdded}
use Rattle.sat_cubes.specs.Cubes.{others, open_vars, new_number, restricted, ids_from, cube_of}
use Rattle.sat_cubes.specs.Splits.{is_split}
use Rattle.sat_cubes.specs.Joined.{AreSmall, CanSplit, State, Stands, Reaches, Tells}
use Rattle.sat_cubes.specs.declared.part.Part.{Part}
use Rattle.sat_cubes.specs.declared.part.Part.TheVariants.{Model, Refuted, Spent}
use Rattle.sat_cubes.specs.declared.part.Refutation.{Refutation}

-- the cube's literals have a number, and no other one has
abbrev pub AreFound : List ℤ → List ℕ → Type 0
AreFound cube places = (l : ℤ) → not (place_of places l == 0) ≡ has cube l

-- each variable that the cube leaves open has its new number
abbrev pub AreNumbered : List ℤ → ℕ → List ℕ → Type 0
AreNumbered cube vars places = (var : ℕ) → 0 < var → var ≤ vars → is_assigned cube var ≡ false
    → place_of places (pos var) ≡ new_number cube var

-- all variables are taken
abbrev pub NoneLeft : ℕ → List ℕ → Type 0
NoneLeft vars taken = (var : ℕ) → 0 < var → var ≤ vars → is_split taken var ≡ true

-- a variable has a higher count than another one, or as high a count and the lower number
abbrev pub PrecedesBy : List ℕ → ℕ → ℕ → Type 0
PrecedesBy counts one other = (slice_index_or counts (other - 1) 0 < slice_index_or counts (one - 1) 0)
    ⊎ ((slice_index_or counts (one - 1) 0 ≡ slice_index_or counts (other - 1) 0) × (one < other))

-- of the variables up to one that aren't taken yet, this one comes first by the counts
pub record IsNextBy (counts : List ℕ) (vars : ℕ) (taken : List ℕ) (var : ℕ) : Type 0 where
  pub some : 0 < var
  pub within : var ≤ vars
  pub fresh : is_split taken var ≡ false
  pub first : (other : ℕ) → 0 < other → other ≤ vars → is_split taken other ≡ false → (other ≡ var → ⊥)
      → PrecedesBy counts var other

-- the steps refute what the cube leaves of the formula
pub record IsRefutation (formula : Cnf) (cube : List ℤ) (refutation : Refutation) : Type 0 where
  pub numbers : refutation.numbers ≡ open_vars cube formula.vars
  pub ids : refutation.ids ≡ ids_from cube 1 formula.clauses
  pub id : ℕ
  pub refutes : Refutes (restricted cube formula.clauses) refutation.steps id
  pub added : AreAdded (length (open_vars cube formula.vars)) refutation.steps

-- what comes of the cube with the number, whose search has so large a share of the budget
abbrev pub IsPart : Cnf → List ℕ → ℕ → ℕ → Part → Type 0
IsPart formula split share index (Model values) =
    (length values ≡ formula.vars) × (formula_true (value_of values) formula.clauses ≡ true)
IsPart formula split share index (Refuted refutation) =
    IsRefutation formula (cube_of split (length split) index) refutation
IsPart formula split share index Spent = share < 3 ^ length (others (is_split split) formula.vars)

-- each cube's steps refute what it leaves of the formula
pub record AreRefutations (formula : Cnf) (split : List ℕ) (refutations : List Refutation) : Type 0 where
  pub whole : length refutations ≡ 2 ^ length split
  pub each : (i : ℕ) (refutation : Refutation) → slice_get refutations i ≡ Some refutation
      → IsRefutation formula (cube_of split (length split) i) refutation

-- the old numbers of each are ones of 63 bits
abbrev pub AreAllSmall : List Refutation → Type 0
AreAllSmall refutations = (i : ℕ) (refutation : Refutation) → slice_get refutations i ≡ Some refutation
    → AreSmall refutation.numbers

-- where nothing came in yet, each cube's clause comes in
abbrev pub LiftsAll : List ℕ → List Refutation → State → State → List ℕ → Type 0
LiftsAll split refutations s now ids = (formula : Cnf) → CanSplit formula split → 0 < length split
    → AreClauses formula.vars formula.clauses → AreRefutations formula split refutations
    → Stands formula s (numbered formula.clauses)
    → Reaches formula split (length split) (length refutations) now ids × Tells split (length refutations) now.steps
