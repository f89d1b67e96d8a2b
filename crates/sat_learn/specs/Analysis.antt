-- Between functions: What a clause and its hints say while a conflict is traced back along a trail. Rules of this
-- project.
use Rattle.std.specs.Prelude.{ℕ, ◌≡◌, Bool, true, false, not, ◌&&◌, ◌||◌, List, [], ◌∷◌, ℤ, slice_get}
use Rattle.std.specs.Prelude.{Option, Some, None}
use Rattle.std.specs.List.{list_any}
use Rattle.lrat_check.specs.declared.reading.Reading.{Reading}
use Rattle.lrat_check.specs.declared.reading.Reading.TheVariants as read
use Rattle.std.specs.Ordering.{int_eq}
use Rattle.lrat_check.specs.Sets.{has, is_false, negs, reading, AreLits}
use Rattle.lrat_check.specs.Steps.{numbered, is_negative}
use Rattle.lrat_check.specs.Resolved.{resolvent}
use Rattle.sat_trail.specs.Clauses.{AllFalse, Within}
use Rattle.sat_trail.specs.Trail.{Entries, lits, below, decided, is_decision, Outlasts, Stand}
use Rattle.sat_propagate.specs.Watches.{SameLits}

-- the clause is false on the trail, and from any part of the trail that makes it false it is the resolvent of the
-- hints, in some order
pub record Derives (clauses : List (List ℤ)) (trail : Entries) (clause hints : List ℤ) : Type 0 where
  pub stand : Stand clauses trail
  pub all_false : AllFalse (lits trail) clause
  pub all_lits : AreLits clause
  pub fine : list_any is_negative hints ≡ false
  pub gives : (set : List ℤ) → Within set (lits trail) → AllFalse set clause
      → (other : List ℤ) × (resolvent (numbered clauses) set hints ≡ Some other) × SameLits other clause

-- the clause is false on the trail, and from its literals' complements it is the resolvent of the hints, in some order
pub record Resolves (clauses : List (List ℤ)) (trail : Entries) (clause hints : List ℤ) : Type 0 where
  pub stand : Stand clauses trail
  pub all_false : AllFalse (lits trail) clause
  pub all_lits : AreLits clause
  pub fine : list_any is_negative hints ≡ false
  pub gives : (set : List ℤ) → SameLits set (negs clause)
      → (other : List ℤ) × (resolvent (numbered clauses) set hints ≡ Some other) × SameLits other clause

-- the literal isn't the forced one, and isn't among those of the set but for the dropped one
abbrev pub is_stray : List ℤ → ℤ → ℤ → ℤ → Bool
is_stray set forced dropped lit = not (int_eq forced lit) && (int_eq dropped lit || not (has set lit))

-- where the set's literals but for the dropped one are false, the clause forces the literal
abbrev pub implies : List ℤ → ℤ → ℤ → List ℤ → Bool
implies set forced dropped clause = has clause forced && not (list_any (is_stray set forced dropped) clause)

-- a clause that is traced back so far, along a trail with a decision
abbrev pub IsTraced : Entries → List ℤ → Type 0
IsTraced trail clause =
    (clauses : List (List ℤ)) × (hints : List ℤ) × Derives clauses trail clause hints × (decided trail ≡ true)

-- the trail that is left has a decision, and the same is older than its newest one
pub record SameLevel (trail left : Entries) : Type 0 where
  pub decided : decided left ≡ true
  pub older_is : below left ≡ below trail

-- the newest entry, if there is one, is no decision
abbrev pub NewestIsImplied : Entries → Type 0
NewestIsImplied [] = Unit {0}
NewestIsImplied (e ∷ older) = is_decision e ≡ false

-- one literal alone is open
abbrev pub is_unit : Reading → Bool
is_unit read.True = false
is_unit read.False = false
is_unit (read.Unit lit) = true
is_unit read.Open = false

-- the clause at the place is false on the trail
pub record IsConflict (clauses : List (List ℤ)) (trail : Entries) (place : ℕ) : Type 0 where
  pub stand : Stand clauses trail
  pub clause : List ℤ
  pub found : slice_get clauses place ≡ Some clause
  pub false_there : reading (lits trail) clause ≡ read.False
  pub all_lits : AreLits clause

-- no literal of the clause is false, or this one is, and became so no earlier than each other that is
abbrev pub FalseLast : Entries → List ℤ → Option ℤ → Type 0
FalseLast trail clause None = (x : ℤ) → has clause x ≡ true → is_false (lits trail) x ≡ false
FalseLast trail clause (Some last) = (has clause last ≡ true) × (is_false (lits trail) last ≡ true)
    × ((x : ℤ) → has clause x ≡ true → is_false (lits trail) x ≡ true → Outlasts trail last x)
