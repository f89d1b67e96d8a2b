-- Meaning: What steps derive, and when each added clause is a resolvent that strengthens unit propagation. Rule of
-- this project.
use Rattle.std.specs.Prelude.{
  ℕ,
  ◌≡◌,
  Bool,
  true,
  false,
  not,
  if◌then◌else◌,
  List,
  [],
  ◌∷◌,
  ◌++◌,
  ℤ,
  neg_ℤ,
}
use Rattle.std.specs.Prelude.{unsigned_abs, Option, Some, None}
use Rattle.std.specs.List.{list_any, list_all}
use Rattle.lrat_check.specs.Sets.{has, is_false, same_set, without, union, negs, reading}
use Rattle.lrat_check.specs.declared.reading.Reading.{Reading}
use Rattle.lrat_check.specs.declared.reading.Reading.TheVariants as read
use Rattle.lrat_check.specs.declared.step.Step.{Step}
use Rattle.lrat_check.specs.declared.step.Step.TheVariants.{Add, Delete}
use Rattle.lrat_check.specs.Steps.{Held, numbered, with_clause, deleted_from, is_empty}

-- the added clauses that are, as sets of literals, none of those seen, each once
abbrev pub derived_from : List (List ℤ) → List Step → List (List ℤ)
derived_from seen [] = []
derived_from seen (Add id lits hints ∷ steps) =
    if list_any (same_set lits) seen then derived_from seen steps
    else lits ∷ derived_from (seen ++ lits ∷ []) steps
derived_from seen (Delete id ids ∷ steps) = derived_from seen steps

-- those that are no clauses of the formula
abbrev pub derived : List (List ℤ) → List Step → List (List ℤ)
derived clauses steps = derived_from clauses steps

-- the literals of a hint's clause take the place of the complement of the literal that it made true
abbrev pub resolved_on : List ℤ → ℤ → Option (List ℤ) → Option (List ℤ)
resolved_on clause l None = None
resolved_on clause l (Some r) =
    if has r (neg_ℤ l) then Some (union (without l clause) (without (neg_ℤ l) r)) else None

-- by how the hint's clause reads; only the last one's is false; rest is what the other hints come to from here on
abbrev pub resolved_by : Reading → List ℤ → Bool → (ℤ → Option (List ℤ)) → Option (List ℤ)
resolved_by read.True clause last rest = None
resolved_by read.False clause last rest = if last then Some clause else None
resolved_by (read.Unit l) clause last rest = resolved_on clause l (rest l)
resolved_by read.Open clause last rest = None

-- by the clause that the hint's id holds
abbrev pub resolved_with : Option (List ℤ) → List ℤ → Bool → (ℤ → Option (List ℤ)) → Option (List ℤ)
resolved_with None set last rest = None
resolved_with (Some clause) set last rest = resolved_by (reading set clause) clause last rest

-- the resolvent of the hints, each of them read and none passed over, from a set of true literals: the last hint's
-- clause, in which from the last hint back to the first the literals of a hint's clause take the place of the
-- complement of the literal that it made true
abbrev pub resolvent : Held → List ℤ → List ℤ → Option (List ℤ)
resolvent held set [] = None
resolvent held set (h ∷ hs) =
    resolved_with (held (unsigned_abs h)) set (is_empty hs) (λ l. resolvent held (set ++ l ∷ []) hs)

-- the clause is that resolvent, as a set
abbrev pub IsResolvent : Held → List ℤ → List ℤ → Type 0
IsResolvent held lits hints =
    (r : List ℤ) × (resolvent held (negs lits) hints ≡ Some r) × (same_set r lits ≡ true)

-- a set of literals has no complementary pair
abbrev pub consistent : List ℤ → Bool
consistent set = list_all (λ l. not (is_false set l)) set

-- a true literal, or two different open ones
abbrev pub is_open : Reading → Bool
is_open read.True = true
is_open read.False = false
is_open (read.Unit l) = false
is_open read.Open = true

-- unit propagation over the held clauses adds nothing to the set, and finds no false clause
abbrev pub Closed : Held → List ℤ → Type 0
Closed held set = (id : ℕ) (clause : List ℤ) → held id ≡ Some clause → is_open (reading set clause) ≡ true

-- from the complements of a clause's other literals unit propagation gives neither its literal nor a false clause
pub record Strengthens (held : Held) (lits : List ℤ) : Type 0 where
  pub lit : ℤ
  pub set : List ℤ
  pub member : has lits lit ≡ true
  pub pairless : consistent set ≡ true
  pub others : list_all (is_false set) (without lit lits) ≡ true
  pub undecided : (has set lit ≡ false) × (is_false set lit ≡ false)
  pub stable : Closed held set

-- each added clause is the resolvent of its hints, and strengthens unit propagation
abbrev pub AllResolved : Held → List Step → Type 0
AllResolved held [] = Unit {0}
AllResolved held (Add id lits hints ∷ steps) =
    IsResolvent held lits hints × Strengthens held lits × AllResolved (with_clause held id lits) steps
AllResolved held (Delete id ids ∷ steps) = AllResolved (deleted_from held ids) steps

abbrev pub Resolved : List (List ℤ) → List Step → Type 0
Resolved clauses steps = AllResolved (numbered clauses) steps
