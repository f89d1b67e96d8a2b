-- Meaning: Cubes, and what is left of a formula under one. A cube is a list of literals that are taken as true, no
-- variable twice (Heule, Kullmann, Wieringa, Biere: Cube and Conquer). How the variables that are left are numbered is
-- a rule of this project.
use Rattle.std.specs.Prelude.{
  ℕ,
  zero,
  suc,
  ◌+◌,
  ◌-◌,
  ◌^◌,
  ◌≡◌,
  Bool,
  false,
  not,
  if◌then◌else◌,
  nat_lt,
  List,
  [],
  ◌∷◌,
  ◌++◌,
  ℤ,
  pos,
  negsuc,
  neg_ℤ,
}
use Rattle.std.specs.Prelude.{unsigned_abs, length, map, filter, slice_index_or}
use Rattle.std.specs.List.{list_any}
use Rattle.cnf_form.specs.Cnf.{AreLiterals}
use Rattle.lrat_check.specs.Sets.{has, is_false}
use Rattle.sat_trail.specs.Trail.{is_assigned}

-- no variable stands there twice
abbrev pub NoneTwice : List ℤ → Type 0
NoneTwice [] = Unit {0}
NoneTwice (l ∷ ls) = (is_assigned ls (unsigned_abs l) ≡ false) × NoneTwice ls

-- literals of so many variables, no variable twice
abbrev pub IsCube : ℕ → List ℤ → Type 0
IsCube vars cube = AreLiterals vars cube × NoneTwice cube

-- the variables up to one that aren't among some, in order
abbrev pub others : (ℕ → Bool) → ℕ → List ℕ
others is_among zero = []
others is_among (suc n) = others is_among n ++ (if is_among (n + 1) then [] else (n + 1) ∷ [])

-- the variables that a cube leaves open
abbrev pub open_vars : List ℤ → ℕ → List ℕ
open_vars cube vars = others (is_assigned cube) vars

-- the literal of this variable with the sign of another literal
abbrev pub signed_as : ℤ → ℕ → ℤ
signed_as (pos n) var = pos var
signed_as (negsuc n) var = neg_ℤ (pos var)

-- the new number of a variable that a cube leaves open: how many of these there are up to it
abbrev pub new_number : List ℤ → ℕ → ℕ
new_number cube var = length (open_vars cube var)

abbrev pub renumbered : List ℤ → ℤ → ℤ
renumbered cube l = signed_as l (new_number cube (unsigned_abs l))

-- the old literal of a renumbered one, by the old numbers of the variables; that of variable 1 comes first
abbrev pub old_literal : List ℕ → ℤ → ℤ
old_literal numbers l = signed_as l (slice_index_or numbers (unsigned_abs l - 1) 0)

-- the literals that a cube leaves open
abbrev pub reduced : List ℤ → List ℤ → List ℤ
reduced cube clause = filter (λ l. not (is_false cube l)) clause

-- the cube makes the clause true
abbrev pub is_satisfied : List ℤ → List ℤ → Bool
is_satisfied cube clause = list_any (has cube) clause

-- what is left of clauses under a cube: those that it doesn't make true, without the literals that it makes false
abbrev pub restricted : List ℤ → List (List ℤ) → List (List ℤ)
restricted cube [] = []
restricted cube (c ∷ cs) =
    if is_satisfied cube c then restricted cube cs
    else map (renumbered cube) (reduced cube c) ∷ restricted cube cs

-- the ids of the clauses that a cube doesn't make true, if the first one's id is this
abbrev pub ids_from : List ℤ → ℕ → List (List ℤ) → List ℕ
ids_from cube id [] = []
ids_from cube id (c ∷ cs) =
    if is_satisfied cube c then ids_from cube (id + 1) cs else id ∷ ids_from cube (id + 1) cs

-- cube number i of so many split variables: variable b of these, from 0, is true exactly where bit b of i is 1
abbrev pub cube_of : List ℕ → ℕ → ℕ → List ℤ
cube_of split zero i = []
cube_of split (suc b) i =
    if nat_lt i (2 ^ b) then neg_ℤ (pos (slice_index_or split b 0)) ∷ cube_of split b i
    else pos (slice_index_or split b 0) ∷ cube_of split b (i - 2 ^ b)
