-- Between functions: Trails, the newest entry first: what is true, why each entry stands there, and what is older than
-- a decision. Rules of this project, after conflict-driven clause learning.
use Rattle.std.specs.Prelude.{
  ℕ,
  zero,
  suc,
  ◌+◌,
  ◌-◌,
  ◌<◌,
  ◌≡◌,
  ◌==◌,
  Bool,
  true,
  false,
  ltb,
  ◌||◌,
  List,
  [],
  ◌∷◌,
  ◌++◌,
  ℤ,
}
use Rattle.std.specs.Prelude.{pos, map, drop, length, slice_get, slice_index_or, Option, Some, None}
use Rattle.std.specs.List.{list_any, list_all}
use Rattle.cnf_form.specs.Cnf.{IsLiteral}
use Rattle.lrat_check.specs.declared.reading.Reading.TheVariants as read
use Rattle.lrat_check.specs.Sets.{has, is_false, reading, IsLit, AreLits}
use Rattle.lrat_check.specs.Codes.{code_of, codes_of}
use Rattle.lrat_check.specs.Resolved.{is_open}
use Rattle.sat_trail.specs.declared.trail.Entry.{Entry}

abbrev pub Entries : Type 0
Entries = List Entry

-- the literals that are true
abbrev pub lits : Entries → List ℤ
lits trail = map (λ e. e.lit) trail

-- and their codes
abbrev pub true_codes : Entries → List ℕ
true_codes trail = codes_of (lits trail)

-- the code is among these
abbrev pub has_code : List ℕ → ℕ → Bool
has_code codes x = list_any (λ code. x == code) codes

-- so many of the oldest entries
abbrev pub oldest : ℕ → Entries → Entries
oldest many trail = drop (length trail - many) trail

-- the first literal becomes false no earlier than the second
abbrev pub Outlasts : Entries → ℤ → ℤ → Type 0
Outlasts trail first second = (end : ℕ) → is_false (lits (oldest end trail)) first ≡ true
    → is_false (lits (oldest end trail)) second ≡ true

-- the literal became true behind so many others
pub record IsNext (trail : Entries) (place : ℕ) (lit : ℤ) : Type 0 where
  pub within : place < length trail
  pub is_lit : IsLit lit
  pub next : lits (oldest (place + 1) trail) ≡ lit ∷ lits (oldest place trail)

-- an entry without a reason is a decision
abbrev pub decides : Option ℕ → Bool
decides None = true
decides (Some place) = false

abbrev pub is_decision : Entry → Bool
is_decision e = decides e.reason

-- some entry is a decision
abbrev pub decided : Entries → Bool
decided trail = list_any is_decision trail

-- what is older than the newest decision; nothing where there is none
abbrev pub below_at : Option ℕ → Entries → Entries → Entries
below_at None older further = older
below_at (Some place) older further = further

abbrev pub below : Entries → Entries
below [] = []
below (e ∷ older) = below_at e.reason older (below older)

-- each clause has a true literal or two open ones
abbrev pub settled : List (List ℤ) → List ℤ → Bool
settled clauses set = list_all (λ c. is_open (reading set c)) clauses

-- a decision comes where the clauses are settled; else the clause at the place forces the literal
abbrev pub Because : List (List ℤ) → List ℤ → ℤ → Option ℕ → Type 0
Because clauses set lit None = settled clauses set ≡ true
Because clauses set lit (Some place) =
    (clause : List ℤ) × (slice_get clauses place ≡ Some clause) × (reading set clause ≡ read.Unit lit)

-- why an entry stands on what is older: its literal was open
pub record Stands (clauses : List (List ℤ)) (older : Entries) (e : Entry) : Type 0 where
  pub lit : IsLit e.lit
  pub free : has (lits older) e.lit ≡ false
  pub unfalse : is_false (lits older) e.lit ≡ false
  pub because : Because clauses (lits older) e.lit e.reason

abbrev pub Stand : List (List ℤ) → Entries → Type 0
Stand clauses [] = Unit {0}
Stand clauses (e ∷ older) = Stands clauses older e × Stand clauses older

-- each literal once
abbrev pub Fresh : Entries → Type 0
Fresh [] = Unit {0}
Fresh (e ∷ older) = (has (lits older) e.lit ≡ false) × Fresh older

-- one above the place of each true literal, by its code; 0 where there is none
abbrev pub place_of : List ℕ → ℤ → ℕ
place_of places lit = slice_index_or places (code_of lit) 0

abbrev pub lies_below : ℕ → ℕ → Bool
lies_below end zero = false
lies_below end (suc place) = ltb place end

-- the places are those in the trail, the oldest entry's being 0, and each literal is there once
pub record ArePlaces (trail : Entries) (places : List ℕ) : Type 0 where
  pub fresh : Fresh trail
  pub all_lits : AreLits (lits trail)
  pub at : (lit : ℤ) (end : ℕ) → lies_below end (place_of places lit) ≡ has (lits (oldest end trail)) lit

-- whether the variable, from 1 on, has a value
abbrev pub is_assigned : List ℤ → ℕ → Bool
is_assigned set var = has set (pos var) || is_false set (pos var)

-- each of so many variables has a value
abbrev pub AllAssigned : ℕ → List ℤ → Type 0
AllAssigned vars set = (index : ℕ) → index < vars → is_assigned set (index + 1) ≡ true

-- the literal is a variable without a value
abbrev pub IsOpenVar : ℕ → List ℤ → ℤ → Type 0
IsOpenVar vars set lit =
    (index : ℕ) × (index < vars) × (lit ≡ pos (index + 1)) × (is_assigned set (index + 1) ≡ false)

-- the literal is one of so many variables, which has no value
abbrev pub IsOpenLit : ℕ → List ℤ → ℤ → Type 0
IsOpenLit vars set lit = IsLiteral vars lit × (has set lit ≡ false) × (is_false set lit ≡ false)

-- a variable is true where the set holds it; variable 1 comes first
abbrev pub values_of : ℕ → List ℤ → List Bool
values_of zero set = []
values_of (suc index) set = values_of index set ++ has set (pos (index + 1)) ∷ []
