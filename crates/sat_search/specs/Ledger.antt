-- Between functions: The clauses that a search holds, by places and by ids, the steps that add and delete them, and
-- what these steps come to. Rules of this project.
use Rattle.std.specs.Prelude.{
  ℕ,
  zero,
  suc,
  ◌+◌,
  ◌-◌,
  ◌^◌,
  ◌<◌,
  ◌≤◌,
  ◌≡◌,
  ◌⊎◌,
  Bool,
  true,
  not,
  ◌&&◌,
  if◌then◌else◌,
  List,
  [],
  ◌∷◌,
  ◌++◌,
  ℤ,
}
use Rattle.std.specs.Prelude.{pos, map, unsigned_abs, length, slice_get, slice_index_or, Some}
use Rattle.std.specs.List.{list_any}
use Rattle.cnf_form.specs.Cnf.{AreClauses}
use Rattle.lrat_check.specs.declared.step.Step.{Step}
use Rattle.lrat_check.specs.declared.step.Step.TheVariants.{Add}
use Rattle.lrat_check.specs.Sets.{same_set}
use Rattle.lrat_check.specs.Steps.{Held, judged, verdict}
use Rattle.lrat_check.specs.Resolved.{AllResolved, Resolved, derived_from}
use Rattle.lrat_check.specs.Texts.{AreShort}
use Rattle.sat_trail.specs.Known.{Clauses, contains, many}
use Rattle.sat_search.specs.Added.{AreAdded}

-- the clauses by their places; the id of each; how many are the formula's, the first ones; the highest id so far; the
-- steps; the clauses that were deleted and not learnt again
pub record State : Type 0 where
  pub clauses : List (List ℤ)
  pub ids : List ℕ
  pub first : ℕ
  pub top : ℕ
  pub steps : List Step
  pub dropped : Clauses

-- the ids of a formula's clauses: 1, 2 and so on
abbrev pub ids_to : ℕ → List ℕ
ids_to zero = []
ids_to (suc count) = ids_to count ++ (count + 1) ∷ []

-- the id of the clause at the place
abbrev pub id_at : List ℕ → ℕ → ℕ
id_at ids place = slice_index_or ids place 0

-- hints that are one above places, by the ids of the clauses there
abbrev pub by_ids : List ℕ → List ℤ → List ℤ
by_ids ids hints = map (λ h. pos (id_at ids (unsigned_abs h - 1))) hints

-- one of the clauses has the same literals
abbrev pub IsAmong : List (List ℤ) → List ℤ → Type 0
IsAmong clauses clause =
    (place : ℕ) × (other : List ℤ) × (slice_get clauses place ≡ Some other) × (same_set clause other ≡ true)

-- each id holds the clause at its place, and no other id holds one
pub record HoldsBy (held : Held) (ids : List ℕ) (clauses : List (List ℤ)) : Type 0 where
  pub many : length ids ≡ length clauses
  pub at : (place id : ℕ) (clause : List ℤ) → slice_get ids place ≡ Some id → slice_get clauses place ≡ Some clause
      → held id ≡ Some clause
  pub of : (id : ℕ) (clause : List ℤ) → held id ≡ Some clause
      → (place : ℕ) × (slice_get ids place ≡ Some id) × (slice_get clauses place ≡ Some clause)
  pub apart : (one other id : ℕ) → slice_get ids one ≡ Some id → slice_get ids other ≡ Some id → one ≡ other

-- whatever more steps come, they go on from the clauses that are held; the clauses that the steps derive are those that
-- were learnt, and each of them and of the formula's is held or was dropped
pub record Tells (vars : ℕ) (formula learnt : List (List ℤ)) (s : State) : Type 0 where
  pub small : vars < 2 ^ 63
  pub names : AreClauses vars s.clauses
  pub first_is : s.first ≡ length formula
  pub begins : (place : ℕ) (clause : List ℤ) → slice_get formula place ≡ Some clause
      → slice_get s.clauses place ≡ Some clause
  pub few : length s.clauses ≤ s.top
  pub most : s.top < 10 ^ 18
  pub some_ids : (place id : ℕ) → slice_get s.ids place ≡ Some id → 0 < id
  pub up_to : (place id : ℕ) → slice_get s.ids place ≡ Some id → id ≤ s.top
  pub held : Held
  pub holds : HoldsBy held s.ids s.clauses
  pub tells : (more : List Step) → judged formula (s.steps ++ more) ≡ verdict held s.top more
  pub resolved : (more : List Step) → AllResolved held more → Resolved formula (s.steps ++ more)
  pub derives : (more : List Step)
      → derived_from formula (s.steps ++ more) ≡ learnt ++ derived_from (formula ++ learnt) more
  pub added : (more : List Step) → AreAdded vars more → AreAdded vars (s.steps ++ more)
  pub short : vars < 10 ^ 18 → (more : List Step) → AreShort more → AreShort (s.steps ++ more)
  pub seen : (clause : List ℤ) → list_any (same_set clause) (formula ++ learnt) ≡ true
      → IsAmong s.clauses clause ⊎ (contains s.dropped clause ≡ true)
  pub known : (clause : List ℤ) → IsAmong s.clauses clause → list_any (same_set clause) (formula ++ learnt) ≡ true
  pub gone : (clause : List ℤ) → contains s.dropped clause ≡ true
      → list_any (same_set clause) (formula ++ learnt) ≡ true

-- so it is for some formula, and some clauses that were learnt
abbrev pub IsLedger : State → Type 0
IsLedger s = (vars : ℕ) × (formula : List (List ℤ)) × (learnt : List (List ℤ)) × Tells vars formula learnt s

-- a clause comes in under the next id, with the step that adds it; it is new where it wasn't dropped before
pub record Adds (s now : State) (lits hints : List ℤ) (is_new : Bool) : Type 0 where
  pub clauses_are : now.clauses ≡ s.clauses ++ lits ∷ []
  pub ids_are : now.ids ≡ s.ids ++ (s.top + 1) ∷ []
  pub first_is : now.first ≡ s.first
  pub top_is : now.top ≡ s.top + 1
  pub most : s.top + 1 < 10 ^ 18
  pub steps_are : now.steps ≡ s.steps ++ Add (s.top + 1) lits (by_ids s.ids hints) ∷ []
  pub is_new_where : is_new ≡ not (contains s.dropped lits)
  pub dropped_are : (clause : List ℤ)
      → contains now.dropped clause ≡ (not (same_set clause lits) && contains s.dropped clause)
  pub many_are : many now.dropped + (if is_new then 0 else 1) ≡ many s.dropped

-- whatever was told is told still
abbrev pub StaysTold : State → State → Type 0
StaysTold s now = (vars : ℕ) (formula learnt : List (List ℤ)) → Tells vars formula learnt s
    → Tells vars formula learnt now
