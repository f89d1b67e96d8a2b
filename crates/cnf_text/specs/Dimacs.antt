-- Meaning: Clause files (DIMACS): which formula a text says, and why it says none. What is refused, and in which
-- order, is a rule of this project.
use Rattle.std.specs.Prelude.{
  ℕ,
  ◌≤◌,
  ◌≡◌,
  Bool,
  true,
  false,
  not,
  ◌&&◌,
  ◌||◌,
  ◌==◌,
  if◌then◌else◌,
  List,
  [],
  ◌∷◌,
}
use Rattle.std.specs.Prelude.{
  ◌++◌,
  length,
  flat_map,
  ℤ,
  unsigned_abs,
  codes,
  decimal,
  bytes_eq,
  Option,
  Some,
  None,
}
use Rattle.std.specs.Prelude.{Result, Ok, Err}
use Rattle.std.specs.Option.{ok_or}
use Rattle.std.specs.Fmt.{signed_decimal}
use Rattle.std.specs.List.{AllByRecursion, list_all}
use Rattle.cnf_form.specs.Cnf.{Cnf}
use Rattle.fv_text.specs.Results.{and_then}
use Rattle.fv_lines.specs.Numbers.{number_up_to, signed}
use Rattle.fv_lines.specs.Words.{is_nil, next_place, begins_with, lines, words}
use Rattle.cnf_text.specs.declared.fault.DimacsFault.{DimacsFault}
use Rattle.cnf_text.specs.declared.fault.DimacsFault.TheVariants.{Header, Literal, Count, Open, Memory}

-- a comment: its first word begins with `c`
abbrev pub is_comment : List (List ℕ) → Bool
is_comment [] = false
is_comment (w ∷ ws) = begins_with 99 w

-- the numbers of variables and clauses of a header, `p cnf VARIABLES CLAUSES`, each at most a hundred million
abbrev pub both : Option ℕ → Option ℕ → Option (ℕ × ℕ)
both None c = None
both (Some v) None = None
both (Some v) (Some c) = Some (v, c)

abbrev pub header_of : List (List ℕ) → Option (ℕ × ℕ)
header_of (p ∷ f ∷ v ∷ c ∷ []) =
    if bytes_eq p (codes "p") && bytes_eq f (codes "cnf")
    then both (number_up_to 100000000 v) (number_up_to 100000000 c)
    else None
header_of ws = None

-- what was read behind the header: the whole clauses, the literals of the open one, and the line of the last of them
pub record Body : Type 0 where
  pub clauses : List (List ℤ)
  pub clause : List ℤ
  pub last : ℕ

-- a literal of one of the variables from 1 to vars, or 0
abbrev pub literal_of : ℕ → List ℕ → Option ℤ
literal_of vars word = signed (number_up_to vars) word

abbrev pub is_zero : ℤ → Bool
is_zero l = unsigned_abs l == 0

-- one number more: 0 ends the clause
abbrev pub with_number : Body → ℕ → ℤ → Body
with_number b line l =
    if is_zero l then record { clauses = b.clauses ++ b.clause ∷ []; clause = []; last = b.last }
    else record { clauses = b.clauses; clause = b.clause ++ l ∷ []; last = line }

-- the words of a line: each is a literal of the variables, or 0
abbrev pub with_words : ℕ → ℕ → Body → List (List ℕ) → Result Body DimacsFault
with_words vars line b [] = Ok b
with_words vars line b (w ∷ ws) =
    and_then (ok_or (literal_of vars w) (Literal line)) (λ l. with_words vars line (with_number b line l) ws)

-- a comment says nothing
abbrev pub with_line : ℕ → ℕ → Body → List ℕ → Result Body DimacsFault
with_line vars line b l = if is_comment (words l) then Ok b else with_words vars line b (words l)

-- the lines behind the header
abbrev pub with_lines : ℕ → ℕ → Body → List (List ℕ) → Result Body DimacsFault
with_lines vars line b [] = Ok b
with_lines vars line b (l ∷ ls) = and_then (with_line vars line b l) (λ c. with_lines vars (next_place line) c ls)

-- the text ends: first an open clause is refused, then another number of clauses than the header's
abbrev pub finished : ℕ → ℕ → Body → Result Cnf DimacsFault
finished vars count b =
    if not (is_nil b.clause) then Err (Open b.last)
    else if length b.clauses == count then Ok (record { vars = vars; clauses = b.clauses })
    else Err (Count (length b.clauses) count)

abbrev pub read_behind : ℕ × ℕ → ℕ → List (List ℕ) → Result Cnf DimacsFault
read_behind header line ls =
    and_then (with_lines header.0 line (record { clauses = []; clause = []; last = 0 }) ls) (finished header.0 header.1)

-- the first line that isn't blank and no comment is the header
abbrev pub read_lines : ℕ → List (List ℕ) → Result Cnf DimacsFault
read_lines line [] = Err (Header line)
read_lines line (l ∷ ls) =
    if is_nil (words l) || is_comment (words l) then read_lines (next_place line) ls
    else and_then (ok_or (header_of (words l)) (Header line)) (λ header. read_behind header (next_place line) ls)

-- the formula of a text, or why it has none
abbrev pub formula_of : List ℕ → Result Cnf DimacsFault
formula_of bytes = read_lines 1 (lines bytes)

-- the text of a formula: the notes as comments, the header, and a line for each clause
abbrev pub note_text : List ℕ → List ℕ
note_text note = codes "c " ++ (note ++ 10 ∷ [])

abbrev pub literal_text : ℤ → List ℕ
literal_text l = signed_decimal l ++ 32 ∷ []

abbrev pub clause_text : List ℤ → List ℕ
clause_text clause = flat_map literal_text clause ++ codes "0\n"

abbrev pub header_text : Cnf → List ℕ
header_text cnf = codes "p cnf " ++ decimal cnf.vars ++ 32 ∷ [] ++ decimal (length cnf.clauses) ++ 10 ∷ []

abbrev pub dimacs_text : List (List ℕ) → Cnf → List ℕ
dimacs_text notes cnf = flat_map note_text notes ++ header_text cnf ++ flat_map clause_text cnf.clauses

-- a note has no LF
abbrev pub HasNoEnd : List ℕ → Type 0
HasNoEnd note = list_all (λ b. not (b == 10)) note ≡ true

abbrev pub HaveNoEnd : List (List ℕ) → Type 0
HaveNoEnd notes = AllByRecursion HasNoEnd notes

-- a formula within the limits of the format is read back
abbrev pub ReadsBack : List (List ℕ) → Cnf → List ℕ → Type 0
ReadsBack notes cnf bytes =
    HaveNoEnd notes → cnf.vars ≤ 100000000 → length cnf.clauses ≤ 100000000 → formula_of bytes ≡ Ok cnf

-- the number of a refusal in print; want of memory has none
abbrev pub dimacs_number : DimacsFault → ℕ
dimacs_number (Header line) = 1
dimacs_number (Literal line) = 2
dimacs_number (Count found said) = 3
dimacs_number (Open line) = 4
dimacs_number Memory = 0

-- a fact about a refusal; want of memory says nothing
abbrev pub OrMemory : DimacsFault → Type 0 → Type 0
OrMemory (Header line) P = P
OrMemory (Literal line) P = P
OrMemory (Count found said) P = P
OrMemory (Open line) P = P
OrMemory Memory P = Unit {0}

-- the answer is the wanted one, as a view sees it
abbrev pub Answers : {X Y : Type 0} → (X → Y) → Result X DimacsFault → Result Y DimacsFault → Type 0
Answers view (Ok x) wanted = wanted ≡ Ok (view x)
Answers view (Err e) wanted = OrMemory e (wanted ≡ Err e)
