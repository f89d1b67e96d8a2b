-- Between functions: What the clauses of a search come to under a set of true literals, and what is kept of them
-- between two looks. Rules of this project.
use Rattle.std.specs.Prelude.{
  ℕ,
  ◌+◌,
  ◌<◌,
  ◌≤◌,
  ◌≡◌,
  ◌⊎◌,
  true,
  List,
  ◌∷◌,
  ℤ,
  length,
  slice_get,
  slice_index_or,
  Some,
}
use Rattle.std.specs.List.{AllByRecursion, list_any}
use Rattle.lrat_check.specs.declared.reading.Reading.TheVariants as read
use Rattle.lrat_check.specs.Sets.{has, reading, AreLits}
use Rattle.lrat_check.specs.Steps.{Held}
use Rattle.lrat_check.specs.Store.{next, held_of}
use Rattle.sat_trail.specs.declared.trail.Entry.{Entry}
use Rattle.sat_trail.specs.Trail.{Entries, lits, is_decision, settled}
use Rattle.sat_propagate.specs.Watches.{State, Keeps, SameLits, OneAlone}
use Rattle.sat_propagate.specs.declared.unit_scan.Scan.{Scan}
use Rattle.sat_propagate.specs.declared.unit_scan.Scan.TheVariants as scan

-- the literals of each clause have complements
abbrev pub AllLits : List (List ℤ) → Type 0
AllLits clauses = AllByRecursion AreLits clauses

-- the clause at a place is false, or forces the literal, or all are settled
abbrev pub Sees : List (List ℤ) → List ℤ → Scan → Type 0
Sees clauses set (scan.Conflict place) =
    (clause : List ℤ) × (slice_get clauses place ≡ Some clause) × (reading set clause ≡ read.False)
Sees clauses set (scan.Unit place lit) =
    (clause : List ℤ) × (slice_get clauses place ≡ Some clause) × (reading set clause ≡ read.Unit lit)
Sees clauses set scan.Settled = settled clauses set ≡ true

-- the watches; how many clauses were taken up, the first ones; the places of those that have no two different literals;
-- how many of these are true, the first ones
pub record Taken : Type 0 where
  pub watches : State
  pub many : ℕ
  pub short : List ℕ
  pub looked : ℕ

-- the clause is held under an id that is one above its place
abbrev pub ComesFrom : List (List ℤ) → ℕ → ℕ → List ℤ → Type 0
ComesFrom clauses many id held =
    (place : ℕ) × (clause : List ℤ) × (id ≡ place + 1) × (place < many)
    × (slice_get clauses place ≡ Some clause) × SameLits clause held

-- the id holds the clause's literals, in some order
abbrev pub IsHeld : Held → ℕ → List ℤ → Type 0
IsHeld held id clause = (other : List ℤ) × (held id ≡ Some other) × SameLits clause other

-- the place at the index of the list
abbrev pub place_at : List ℕ → ℕ → ℕ
place_at places index = slice_index_or places index 0

-- the place is in the list
abbrev pub IsAmong : List ℕ → ℕ → Type 0
IsAmong places place = (index : ℕ) × (index < length places) × (place_at places index ≡ place)

-- the place is that of a clause that was taken up, and has no two different literals
abbrev pub IsShort : List (List ℤ) → ℕ → ℕ → Type 0
IsShort clauses many place =
    (clause : List ℤ) × (place < many) × (slice_get clauses place ≡ Some clause) × OneAlone clause

-- a literal of the clause at the place is true
abbrev pub IsTrueAt : List (List ℤ) → List ℤ → ℕ → Type 0
IsTrueAt clauses set place =
    (clause : List ℤ) × (slice_get clauses place ≡ Some clause) × (list_any (has set) clause ≡ true)

-- the clauses that were taken up are those that are held, and short ones; so many of these are true
pub record Holds (clauses : List (List ℤ)) (trail : Entries) (p : Taken) : Type 0 where
  pub keeps : Keeps p.watches trail
  pub above : next p.watches.store ≤ p.many + 1
  pub few : p.many ≤ length clauses
  pub known : (id : ℕ) (clause : List ℤ) → held_of p.watches.store id ≡ Some clause
      → ComesFrom clauses p.many id clause
  pub taken : (place : ℕ) (clause : List ℤ) → place < p.many → slice_get clauses place ≡ Some clause
      → IsHeld (held_of p.watches.store) (place + 1) clause ⊎ IsAmong p.short place
  pub short : (index : ℕ) → index < length p.short → IsShort clauses p.many (place_at p.short index)
  pub looked : p.looked ≤ length p.short
  pub true_there : (index : ℕ) → index < p.looked → IsTrueAt clauses (lits trail) (place_at p.short index)

-- so it is, and still where an entry comes: a decision only where all is settled
abbrev pub HoldsOn : List (List ℤ) → Entries → Taken → Scan → Type 0
HoldsOn clauses trail p seen = Holds clauses trail p
    × ((e : Entry) → (is_decision e ≡ true → seen ≡ scan.Settled) → Holds clauses (e ∷ trail) p)
