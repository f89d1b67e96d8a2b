-- Between functions: Sets of clauses, in each of which the clauses with the same literals are one. Rule of this
-- project.
use Rattle.std.specs.Prelude.{ℕ, List, ℤ, Bool, length}
use Rattle.std.specs.List.{list_any}
use Rattle.std.specs.Ordering.{int_eq}
use Rattle.std.specs.Cmp.Lexicographic.{pointwise}
use Rattle.sat_trail.specs.Sorted.{sorted}

-- the clauses that are there, the literals of each in order
abbrev pub Clauses : Type 0
Clauses = List (List ℤ)

-- whether a clause with the same literals is there
abbrev pub contains : Clauses → List ℤ → Bool
contains set clause = list_any (pointwise int_eq (sorted clause)) set

-- how many are there
abbrev pub many : Clauses → ℕ
many set = length set
