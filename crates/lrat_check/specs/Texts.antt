-- Meaning: Proofs as texts (LRAT, without the binary form): which steps a text says, and why it says none. One step a
-- line: `ID LITERALS 0 HINTS 0`, or `ID d IDS 0`. How long numbers may be is a rule of this project.
use Rattle.std.specs.Prelude.{
  ℕ,
  ◌<◌,
  ◌^◌,
  ◌≡◌,
  unsigned_abs,
  Bool,
  if◌then◌else◌,
  nat_le,
  ◌==◌,
  List,
  [],
  ◌∷◌,
  ◌++◌,
}
use Rattle.std.specs.Prelude.{length, flat_map, ℤ, codes, decimal, bytes_eq, Option, Some, None, Result, Ok, Err}
use Rattle.std.specs.List.{AllByRecursion}
use Rattle.fv_text.specs.Results.{and_then}
use Rattle.fv_lines.specs.Words.{lines, words, is_nil, next_place}
use Rattle.fv_lines.specs.Numbers.{natural_of, signed}
use Rattle.cnf_text.specs.Dimacs.{literal_text}
use Rattle.lrat_check.specs.declared.step.Step.{Step}
use Rattle.lrat_check.specs.declared.step.Step.TheVariants.{Add, Delete}
use Rattle.lrat_check.specs.declared.lrat_fault.LratFault.{LratFault}
use Rattle.lrat_check.specs.declared.lrat_fault.LratFault.TheVariants.{Literal, Open, Memory}

-- a number of 1 to 18 digits
abbrev pub short : List ℕ → Option ℕ
short word = if nat_le (length word) 18 then natural_of word else None

abbrev pub nonzero : Option ℕ → Option ℕ
nonzero None = None
nonzero (Some n) = if n == 0 then None else Some n

-- a literal or a hint: 1 to 18 digits, with or without `-`, not zero
abbrev pub literal_of : List ℕ → Option ℤ
literal_of word = signed (λ digits. nonzero (short digits)) word

-- the word `0`
abbrev pub is_end : List ℕ → Bool
is_end word = bytes_eq word (codes "0")

-- the word `d`
abbrev pub is_delete : List ℕ → Bool
is_delete word = bytes_eq word (codes "d")

-- a number that has to be there
abbrev pub wanted : {A : Type 0} → ℕ → Option A → Result A LratFault
wanted line None = Err (Literal line)
wanted line (Some x) = Ok x

-- the numbers up to the word `0`, and the words behind it
abbrev pub up_to_end : {X : Type 0} → (List ℕ → Option X) → ℕ → List X → List (List ℕ)
    → Result (List X × List (List ℕ)) LratFault
up_to_end number line xs [] = Err (Open line)
up_to_end number line xs (w ∷ ws) = if is_end w then Ok (xs, ws)
    else and_then (wanted line (number w)) (λ x. up_to_end number line (xs ++ x ∷ []) ws)

-- no word stands behind the last end
abbrev pub ended : ℕ → Step → List (List ℕ) → Result Step LratFault
ended line step [] = Ok step
ended line step (w ∷ ws) = Err (Literal line)

abbrev pub add_of : ℕ → ℕ → List (List ℕ) → Result Step LratFault
add_of line id ws = and_then (up_to_end literal_of line [] ws) (λ lits.
    and_then (up_to_end literal_of line [] lits.1) (λ hints. ended line (Add id lits.0 hints.0) hints.1))

abbrev pub delete_of : ℕ → ℕ → List (List ℕ) → Result Step LratFault
delete_of line id ws =
    and_then (up_to_end (λ w. nonzero (short w)) line [] ws) (λ ids. ended line (Delete id ids.0) ids.1)

-- `d` in the second place makes it a deletion
abbrev pub behind_id : ℕ → ℕ → List (List ℕ) → Result Step LratFault
behind_id line id [] = Err (Open line)
behind_id line id (w ∷ ws) = if is_delete w then delete_of line id ws else add_of line id (w ∷ ws)

-- the step of a line's words
abbrev pub step_of : ℕ → List (List ℕ) → Result Step LratFault
step_of line [] = Err (Open line)
step_of line (w ∷ ws) = and_then (wanted line (short w)) (λ id. behind_id line id ws)

-- a blank line says nothing
abbrev pub with_line : ℕ → List Step → List ℕ → Result (List Step) LratFault
with_line line steps l = if is_nil (words l) then Ok steps
    else and_then (step_of line (words l)) (λ step. Ok (steps ++ step ∷ []))

abbrev pub with_lines : ℕ → List Step → List (List ℕ) → Result (List Step) LratFault
with_lines line steps [] = Ok steps
with_lines line steps (l ∷ ls) = and_then (with_line line steps l) (λ more. with_lines (next_place line) more ls)

-- the steps of a text, or why it has none
abbrev pub steps_of : List ℕ → Result (List Step) LratFault
steps_of bytes = with_lines 1 [] (lines bytes)

-- the text of steps
abbrev pub id_text : ℕ → List ℕ
id_text id = decimal id ++ 32 ∷ []

abbrev pub step_text : Step → List ℕ
step_text (Add id lits hints) =
    id_text id ++ flat_map literal_text lits ++ codes "0 " ++ flat_map literal_text hints ++ codes "0\n"
step_text (Delete id ids) = id_text id ++ codes "d " ++ flat_map id_text ids ++ codes "0\n"

abbrev pub lrat_text : List Step → List ℕ
lrat_text steps = flat_map step_text steps

-- numbers of at most 18 digits, and no literal, hint or deleted id is 0
abbrev pub IsShortLiteral : ℤ → Type 0
IsShortLiteral l = (0 < unsigned_abs l) × (unsigned_abs l < 10 ^ 18)

abbrev pub IsShortId : ℕ → Type 0
IsShortId id = (0 < id) × (id < 10 ^ 18)

abbrev pub IsShort : Step → Type 0
IsShort (Add id lits hints) =
    (id < 10 ^ 18) × AllByRecursion IsShortLiteral lits × AllByRecursion IsShortLiteral hints
IsShort (Delete id ids) = (id < 10 ^ 18) × AllByRecursion IsShortId ids

abbrev pub AreShort : List Step → Type 0
AreShort [] = Unit {0}
AreShort (step ∷ steps) = IsShort step × AreShort steps

-- such steps are read back
abbrev pub ReadsBack : List Step → List ℕ → Type 0
ReadsBack steps bytes = AreShort steps → steps_of bytes ≡ Ok steps

-- the number of a refusal in print; want of memory has none
abbrev pub lrat_number : LratFault → ℕ
lrat_number (Literal line) = 1
lrat_number (Open line) = 2
lrat_number Memory = 0

-- a fact about a refusal; want of memory says nothing
abbrev pub OrMemory : LratFault → Type 0 → Type 0
OrMemory (Literal line) P = P
OrMemory (Open line) P = P
OrMemory Memory P = Unit {0}

-- the answer is the wanted one, as a view sees it
abbrev pub Answers : {X Y : Type 0} → (X → Y) → Result X LratFault → Result Y LratFault → Type 0
Answers view (Ok x) wanted = wanted ≡ Ok (view x)
Answers view (Err e) wanted = OrMemory e (wanted ≡ Err e)

-- what was read so far, or why it goes no further
abbrev pub Goes : List Step → Result (Unit {0}) LratFault → Result (List Step) LratFault → Type 0
Goes now (Ok u) wanted = wanted ≡ Ok now
Goes now (Err e) wanted = OrMemory e (wanted ≡ Err e)
