-- Meaning: Steps of a refutation: which are valid, why one is refused, what is derived. A step's clause holds where
-- unit propagation along its hints, from its literals made false, ends in a conflict (Cruz-Filipe, Heule, Hunt,
-- Kaufmann, Schneider-Kamp: Efficient Certified RAT Verification). Rules of this project: there are no RAT steps, and
-- a hint with a true literal is passed over.
use Rattle.std.specs.Prelude.{
  ℕ,
  zero,
  suc,
  ◌≡◌,
  Bool,
  true,
  false,
  if◌then◌else◌,
  leb,
  ◌==◌,
  List,
  [],
  ◌∷◌,
  ◌++◌,
  ℤ,
}
use Rattle.std.specs.Prelude.{pos, unsigned_abs, int_lt, length, slice_get}
use Rattle.std.specs.Prelude.{Option, Some, None, Result, Ok, Err, is_some}
use Rattle.std.specs.List.{list_any}
use Rattle.lrat_check.specs.Sets.{negs, reading, AreLits}
use Rattle.lrat_check.specs.declared.reading.Reading.{Reading}
use Rattle.lrat_check.specs.declared.reading.Reading.TheVariants as read
use Rattle.lrat_check.specs.declared.step.Step.{Step}
use Rattle.lrat_check.specs.declared.step.Step.TheVariants.{Add, Delete}
use Rattle.lrat_check.specs.declared.step.Refuted.{Refuted}
use Rattle.lrat_check.specs.declared.step.StepFault.{StepFault}
use Rattle.lrat_check.specs.declared.step.StepFault.TheVariants as fault

-- which clause each id holds
abbrev pub Held : Type 0
Held = ℕ → Option (List ℤ)

-- the clauses of a formula have the ids from 1 on
abbrev pub numbered : List (List ℤ) → Held
numbered clauses zero = None
numbered clauses (suc place) = slice_get clauses place

-- the number of a refusal in print; want of memory has none
abbrev pub step_number : StepFault → ℕ
step_number (fault.NoClause id hint) = 1
step_number (fault.NotUnit id hint) = 2
step_number (fault.NoConflict id) = 3
step_number (fault.IdOrder id) = 4
step_number (fault.Rat id) = 5
step_number fault.NoEmpty = 6
step_number fault.Memory = 0

-- the id holds the clause from here on
abbrev pub with_clause : Held → ℕ → List ℤ → Held
with_clause held id lits = λ i. if id == i then Some lits else held i

-- the id holds none from here on
abbrev pub without_clause : Held → ℕ → Held
without_clause held id = λ i. if id == i then None else held i

-- none of the ids holds a clause from here on
abbrev pub deleted_from : Held → List ℕ → Held
deleted_from held [] = held
deleted_from held (i ∷ ids) = deleted_from (without_clause held i) ids

abbrev pub is_negative : ℤ → Bool
is_negative l = int_lt l (pos 0)

abbrev pub is_empty : List ℤ → Bool
is_empty [] = true
is_empty (l ∷ ls) = false

-- how a hint's clause, read under the set, leads on to the hints behind it
abbrev pub with_reading : ℕ → ℤ → List ℤ → Reading → (List ℤ → Option StepFault) → Option StepFault
with_reading id h set read.True next = next set
with_reading id h set read.False next = None
with_reading id h set (read.Unit l) next = next (set ++ l ∷ [])
with_reading id h set read.Open next = Some (fault.NotUnit id h)

abbrev pub with_hint : ℕ → ℤ → List ℤ → Option (List ℤ) → (List ℤ → Option StepFault)
    → Option StepFault
with_hint id h set None next = Some (fault.NoClause id h)
with_hint id h set (Some clause) next = with_reading id h set (reading set clause) next

-- unit propagation along the hints, from a set of true literals, up to a clause that is false; else why it is refused
abbrev pub walk : Held → ℕ → List ℤ → List ℤ → Option StepFault
walk held id set [] = Some (fault.NoConflict id)
walk held id set (h ∷ hs) = with_hint id h set (held (unsigned_abs h)) (λ more. walk held id more hs)

-- why an added clause is refused: its id is not above all ids before it (top is the highest); a hint is negative; else
-- where the hints, from its literals made false, refuse it
abbrev pub add_fault : Held → ℕ → ℕ → List ℤ → List ℤ → Option StepFault
add_fault held top id lits hints =
    if leb id top then Some (fault.IdOrder id)
    else if list_any is_negative hints then Some (fault.Rat id)
    else walk held id (negs lits) hints

-- what is held after a deletion, or that an id of it was not held; an id's own number is not judged
abbrev pub deleted : Held → ℕ → List ℕ → Result Held StepFault
deleted held id [] = Ok held
deleted held id (i ∷ ids) =
    if is_some (held i) then deleted (without_clause held i) id ids else Err (fault.NoClause id (pos i))

abbrev pub or_refused : Option StepFault → Result Refuted StepFault → Result Refuted StepFault
or_refused None next = next
or_refused (Some f) next = Err f

abbrev pub with_held : Result Held StepFault → (Held → Result Refuted StepFault) → Result Refuted StepFault
with_held (Ok held) next = next held
with_held (Err f) next = Err f

-- what the steps come to: the id of the first empty clause, or the first refusal
abbrev pub verdict : Held → ℕ → List Step → Result Refuted StepFault
verdict held top [] = Err fault.NoEmpty
verdict held top (Add id lits hints ∷ steps) = or_refused (add_fault held top id lits hints)
    (if is_empty lits then Ok (record { id = id }) else verdict (with_clause held id lits) id steps)
verdict held top (Delete id ids ∷ steps) = with_held (deleted held id ids) (λ rest. verdict rest top steps)

-- the steps over the clauses of a formula
abbrev pub judged : List (List ℤ) → List Step → Result Refuted StepFault
judged clauses steps = verdict (numbered clauses) (length clauses) steps

-- the steps refute: each is valid up to the first empty clause, which has the id
abbrev pub Refutes : List (List ℤ) → List Step → ℕ → Type 0
Refutes clauses steps id = judged clauses steps ≡ Ok (record { id = id })

-- each step is valid, and none adds the empty clause
abbrev pub Valid : List (List ℤ) → List Step → Type 0
Valid clauses steps = judged clauses steps ≡ Err fault.NoEmpty

-- the literals of added clauses have complements
abbrev pub IsStep : Step → Type 0
IsStep (Add id lits hints) = AreLits lits
IsStep (Delete id ids) = Unit {0}

abbrev pub AreSteps : List Step → Type 0
AreSteps [] = Unit {0}
AreSteps (step ∷ steps) = IsStep step × AreSteps steps
