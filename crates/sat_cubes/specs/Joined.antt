-- Between functions: What steps over a formula's clauses lead to, as cubes are lifted and joined. Rules of this
-- project.
use Rattle.std.specs.Prelude.{ℕ, ◌+◌, ◌^◌, ◌<◌, ◌≤◌, ◌≡◌, false, List, [], ◌∷◌, ◌++◌, ℤ}
use Rattle.std.specs.Prelude.{length, take, slice_get, slice_index_or, Some}
use Rattle.cnf_form.specs.Cnf.{Cnf}
use Rattle.lrat_check.specs.declared.step.Step.{Step}
use Rattle.lrat_check.specs.declared.step.Step.TheVariants.{Add}
use Rattle.lrat_check.specs.Sets.{negs}
use Rattle.lrat_check.specs.Steps.{Held, numbered, judged, verdict, Refutes, AreSteps}
use Rattle.lrat_check.specs.Texts.{AreShort}
use Rattle.sat_search.specs.Found.{EndsEmpty}
use Rattle.sat_cubes.specs.Cubes.{cube_of}
use Rattle.sat_cubes.specs.Splits.{is_split, AddsClause}

-- each of the numbers is one of 63 bits
abbrev pub AreSmall : List ℕ → Type 0
AreSmall numbers = (k : ℕ) → slice_index_or numbers k 0 < 2 ^ 63

-- and none is 0
abbrev pub AreVars : List ℕ → Type 0
AreVars numbers = (k : ℕ) → k < length numbers
    → (0 < slice_index_or numbers k 0) × (slice_index_or numbers k 0 < 2 ^ 63)

-- different variables of the formula, 6 at most
pub record CanSplit (formula : Cnf) (split : List ℕ) : Type 0 where
  pub few : length split ≤ 6
  pub small : formula.vars < 2 ^ 63
  pub each : (k var : ℕ) → slice_get split k ≡ Some var
      → (0 < var) × (var ≤ formula.vars) × (is_split (take k split) var ≡ false)

-- the steps so far, and the highest id
pub record State : Type 0 where
  pub steps : List Step
  pub top : ℕ

-- a clause comes in under the next id
pub record Adds (s now : State) (lits hints : List ℤ) : Type 0 where
  pub steps : now.steps ≡ s.steps ++ Add (s.top + 1) lits hints ∷ []
  pub top : now.top ≡ s.top + 1
  pub most : now.top < 10 ^ 18

-- clauses come in by these steps
pub record Lifts (s now : State) (steps : List Step) : Type 0 where
  pub steps_are : now.steps ≡ s.steps ++ steps
  pub top_is : now.top ≡ s.top + length steps
  pub most : s.top < 10 ^ 18 → now.top < 10 ^ 18

-- whatever more steps come, they go on from the clauses that are held; those of the formula are among these
pub record Stands (formula : Cnf) (s : State) (held : Held) : Type 0 where
  pub leads : (more : List Step) → judged formula.clauses (s.steps ++ more) ≡ verdict held s.top more
  pub first : length formula.clauses ≤ s.top
  pub keeps : (id : ℕ) → id ≤ length formula.clauses → held id ≡ numbered formula.clauses id
  pub most : s.top < 10 ^ 18
  pub are_steps : AreSteps s.steps
  pub short : formula.vars < 10 ^ 18 → AreShort s.steps

-- of the cubes of so many split variables, each of the first many has its clause, under an id
pub record AreBlocks (held : Held) (top : ℕ) (split : List ℕ) (level many : ℕ) (ids : List ℕ) : Type 0 where
  pub whole : length ids ≡ many
  pub at : (i : ℕ) → i < many → (id : ℕ) × (slice_get ids i ≡ Some id) × (0 < id) × (id ≤ top)
      × (held id ≡ Some (negs (cube_of split level i)))

-- the steps so far lead to such clauses
pub record Reaches (formula : Cnf) (split : List ℕ) (level many : ℕ) (s : State) (ids : List ℕ) : Type 0 where
  pub held : Held
  pub stands : Stands formula s held
  pub blocks : AreBlocks held s.top split level many ids

-- and in a turn of joining them: those of one more variable, and those that are joined so far
pub record Joins (formula : Cnf) (split : List ℕ) (level : ℕ) (s : State) (ids : List ℕ) (many : ℕ)
    (joined : List ℕ) : Type 0 where
  pub held : Held
  pub stands : Stands formula s held
  pub whole : AreBlocks held s.top split (level + 1) (2 ^ (level + 1)) ids
  pub some : AreBlocks held s.top split level many joined

-- the steps add for each of the first cubes its clause
abbrev pub Tells : List ℕ → ℕ → List Step → Type 0
Tells split many steps = (i : ℕ) → i < many → AddsClause steps (negs (cube_of split (length split) i))

-- each clause that was added stands there still
abbrev pub StaysAdded : State → State → Type 0
StaysAdded s now = (clause : List ℤ) → AddsClause s.steps clause → AddsClause now.steps clause

-- the steps refute the formula, and end there
pub record AreRefuting (formula : Cnf) (steps : List Step) : Type 0 where
  pub id : ℕ
  pub refutes : Refutes formula.clauses steps id
  pub ends : EndsEmpty steps id
  pub are_steps : AreSteps steps
  pub short : formula.vars < 10 ^ 18 → AreShort steps
