-- Meaning: Which variables of a formula are split, and what steps that join the cubes' refutations say of each cube.
-- Rules of this project.
use Rattle.std.specs.Prelude.{
  ℕ,
  ◌+◌,
  ◌/◌,
  ◌^◌,
  ◌<◌,
  ◌≤◌,
  ◌≡◌,
  ◌⊎◌,
  Bool,
  true,
  false,
  if◌then◌else◌,
  ◌==◌,
  List,
  [],
  ◌∷◌,
  ℤ,
}
use Rattle.std.specs.Prelude.{unsigned_abs, length, take, slice_get, Some}
use Rattle.std.specs.List.{list_any}
use Rattle.cnf_form.specs.Cnf.{Cnf}
use Rattle.lrat_check.specs.declared.step.Step.{Step}
use Rattle.lrat_check.specs.declared.step.Step.TheVariants.{Add}
use Rattle.lrat_check.specs.Sets.{same_set, negs}
use Rattle.sat_cubes.specs.Cubes.{others, cube_of}

-- how many literals of the clause name the variable
abbrev pub occurrences_in : ℕ → List ℤ → ℕ
occurrences_in var [] = 0
occurrences_in var (l ∷ ls) = (if unsigned_abs l == var then 1 else 0) + occurrences_in var ls

-- how many literals of the clauses do
abbrev pub occurrences : ℕ → List (List ℤ) → ℕ
occurrences var [] = 0
occurrences var (c ∷ cs) = occurrences_in var c + occurrences var cs

-- the variable is one of these
abbrev pub is_split : List ℕ → ℕ → Bool
is_split split var = list_any (λ n. var == n) split

-- one variable is split before another: it has more literals, or as many and the lower number
abbrev pub Precedes : List (List ℤ) → ℕ → ℕ → Type 0
Precedes clauses one other = (occurrences other clauses < occurrences one clauses)
    ⊎ ((occurrences one clauses ≡ occurrences other clauses) × (one < other))

-- of the variables that aren't taken yet, this one comes first
pub record IsNext (clauses : List (List ℤ)) (vars : ℕ) (taken : List ℕ) (var : ℕ) : Type 0 where
  pub some : 0 < var
  pub within : var ≤ vars
  pub fresh : is_split taken var ≡ false
  pub first : (other : ℕ) → 0 < other → other ≤ vars → is_split taken other ≡ false → (other ≡ var → ⊥)
      → Precedes clauses var other

-- so many variables with the most literals, or all where there are fewer
pub record AreSplit (formula : Cnf) (many : ℕ) (split : List ℕ) : Type 0 where
  pub each : (k var : ℕ) → slice_get split k ≡ Some var
      → IsNext formula.clauses formula.vars (take k split) var
  pub few : length split ≤ many
  pub all : length split < many → (var : ℕ) → 0 < var → var ≤ formula.vars → is_split split var ≡ true

-- one of the steps adds a clause with exactly these literals
abbrev pub AddsClause : List Step → List ℤ → Type 0
AddsClause steps clause = (k : ℕ) × (id : ℕ) × (lits : List ℤ) × (hints : List ℤ)
    × (slice_get steps k ≡ Some (Add id lits hints)) × (same_set lits clause ≡ true)

-- where a cube's share of the budget is at least 3 ^ m, m the number of variables that aren't split, the steps add for
-- each cube the clause of its literals' complements
abbrev pub TellsCubes : Cnf → ℕ → ℕ → List Step → Type 0
TellsCubes formula many budget steps = (split : List ℕ) × AreSplit formula many split
    × (3 ^ length (others (is_split split) formula.vars) ≤ budget / 2 ^ length split
    → (i : ℕ) → i < 2 ^ length split → AddsClause steps (negs (cube_of split (length split) i)))
