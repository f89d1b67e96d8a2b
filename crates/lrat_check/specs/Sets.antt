-- Meaning: Sets of literals, as lists that are read by what they hold, and how a clause reads under a set of true
-- literals. A literal is true where the set holds it, and false where the set holds its complement: a partial
-- assignment, as unit propagation reads clauses (Cruz-Filipe, Heule, Hunt, Kaufmann, Schneider-Kamp: Efficient
-- Certified RAT Verification).
use Rattle.std.specs.Prelude.{
  ◌<◌,
  ◌^◌,
  Bool,
  not,
  ◌&&◌,
  if◌then◌else◌,
  List,
  [],
  ◌∷◌,
  ◌++◌,
  filter,
  map,
  ℤ,
  neg_ℤ,
}
use Rattle.std.specs.Prelude.{unsigned_abs, Option, Some, None}
use Rattle.std.specs.Ordering.{int_eq}
use Rattle.std.specs.List.{AllByRecursion, list_any, list_all}
use Rattle.lrat_check.specs.declared.reading.Reading.{Reading}
use Rattle.lrat_check.specs.declared.reading.Reading.TheVariants as read

-- the set holds the literal
abbrev pub has : List ℤ → ℤ → Bool
has set l = list_any (int_eq l) set

-- the set holds the complement
abbrev pub is_false : List ℤ → ℤ → Bool
is_false set l = has set (neg_ℤ l)

-- each literal of a is in b
abbrev pub within : List ℤ → List ℤ → Bool
within a b = list_all (has b) a

-- both hold the same literals
abbrev pub same_set : List ℤ → List ℤ → Bool
same_set a b = within a b && within b a

abbrev pub without : ℤ → List ℤ → List ℤ
without l set = filter (λ m. not (int_eq l m)) set

abbrev pub union : List ℤ → List ℤ → List ℤ
union a b = filter (λ l. not (has b l)) a ++ b

-- a literal that has a complement, both of them not 0 and of 64 bits
abbrev pub IsLit : ℤ → Type 0
IsLit l = (0 < unsigned_abs l) × (unsigned_abs l < 2 ^ 63)

abbrev pub AreLits : List ℤ → Type 0
AreLits lits = AllByRecursion IsLit lits

-- the complements of a clause's literals
abbrev pub negs : List ℤ → List ℤ
negs lits = map neg_ℤ lits

-- the first literal that is not false
abbrev pub first_open : List ℤ → List ℤ → Option ℤ
first_open set [] = None
first_open set (l ∷ ls) = if is_false set l then first_open set ls else Some l

-- a literal other than l is not false
abbrev pub other_open : List ℤ → ℤ → List ℤ → Bool
other_open set l clause = list_any (λ m. not (is_false set m) && not (int_eq l m)) clause

-- a clause without a true literal, by its first open literal and whether there is another one
abbrev pub reading_of : Option ℤ → (ℤ → Bool) → Reading
reading_of None other = read.False
reading_of (Some l) other = if other l then read.Open else read.Unit l

-- a clause reads True where a literal is true; else False where all are false, Unit where exactly one is not, Open
-- where two different ones are not
abbrev pub reading : List ℤ → List ℤ → Reading
reading set clause =
    if list_any (has set) clause then read.True
    else reading_of (first_open set clause) (λ l. other_open set l clause)

-- a further open literal turns a reading without a true one into this reading
abbrev pub with_open : ℤ → Reading → Reading
with_open l read.True = read.True
with_open l read.False = read.Unit l
with_open l (read.Unit first) = if int_eq l first then read.Unit first else read.Open
with_open l read.Open = read.Open
