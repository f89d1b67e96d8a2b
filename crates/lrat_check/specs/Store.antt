-- Between functions: Clauses by id, as codes of literals in one list. Rules of this project.
use Rattle.std.specs.Prelude.{
  ℕ,
  zero,
  suc,
  ◌+◌,
  ◌-◌,
  ◌<◌,
  ◌≤◌,
  ◌≡◌,
  Bool,
  false,
  if◌then◌else◌,
  ◌==◌,
  List,
  [],
  ◌∷◌,
  ◌++◌,
  ℤ,
  length,
}
use Rattle.std.specs.Prelude.{slice_range, slice_index_or, Option, Some, None, IsSome, MatchBool, Result, Ok, Err}
use Rattle.cnf_form.specs.Flat.{start_of, end_at, Mounting}
use Rattle.lrat_check.specs.declared.step.StepFault.{StepFault}
use Rattle.lrat_check.specs.declared.step.StepFault.TheVariants.{Memory}
use Rattle.lrat_check.specs.Answers.{OrMemory}
use Rattle.lrat_check.specs.Codes.{lits_of}
use Rattle.lrat_check.specs.Sets.{AreLits}
use Rattle.lrat_check.specs.Steps.{Held, without_clause}

-- the codes of the clause that each id holds
abbrev pub Coded : Type 0
Coded = ℕ → Option (List ℕ)

-- where a clause lies among the codes, and whether its id still holds it
pub record Span : Type 0 where
  pub id : ℕ
  pub start : ℕ
  pub end : ℕ
  pub held : Bool

-- all clauses in one list, where each of them lies, and the id that was added last
pub record Clauses : Type 0 where
  pub codes : List ℕ
  pub spans : List Span
  pub last : Option ℕ

-- what the span holds
abbrev pub part : List ℕ → Span → Option (List ℕ)
part all span = if span.held then Some (slice_range all span.start span.end) else None

-- what the span of the id holds
abbrev pub found : List ℕ → List Span → Coded
found all [] id = None
found all (span ∷ spans) id = if span.id == id then part all span else found all spans id

-- the map from ids to clauses
abbrev pub coded : Clauses → Coded
coded store = found store.codes store.spans

-- the least id that may be added: one above the last
abbrev pub above : Option ℕ → ℕ
above None = 0
above (Some id) = id + 1

abbrev pub next : Clauses → ℕ
next store = above store.last

-- the id holds the clause from here on
abbrev pub with_code : Coded → ℕ → List ℕ → Coded
with_code held id clause = λ i. if id == i then Some clause else held i

-- the id holds none from here on
abbrev pub without_code : Coded → ℕ → Coded
without_code held id = λ i. if id == i then None else held i

abbrev pub number_at : List ℕ → ℕ → ℕ
number_at numbers place = slice_index_or numbers place 0

abbrev pub span_at : List Span → ℕ → Span
span_at spans place = slice_index_or spans place (record { id = 0; start = 0; end = 0; held = false })

-- where the clauses of the ids lie, each of which is held or not
abbrev pub spans : List ℕ → List ℕ → List Bool → ℕ → List Span
spans [] starts held end = []
spans (id ∷ ids) [] held end = []
spans (id ∷ ids) (start ∷ starts) [] end = []
spans (id ∷ ids) (start ∷ starts) (is_held ∷ held) end =
    (record { id = id; start = start; end = start_of starts end; held = is_held }) ∷ spans ids starts held end

-- ids rise
abbrev pub Rising : List ℕ → Type 0
Rising ids = (i k : ℕ) → i < k → k < length ids → number_at ids i < number_at ids k

-- ids rise
abbrev pub Climbing : List Span → Type 0
Climbing spans = (i k : ℕ) → i < k → k < length spans → (span_at spans i).id < (span_at spans k).id

-- each part lies behind the one before it, up to the end of all, and its id is below the next one
pub record Laid (spans : List Span) (end next : ℕ) : Type 0 where
  pub within : (k : ℕ) → k < length spans → ((span_at spans k).start ≤ (span_at spans k).end)
      × ((span_at spans k).end ≤ end) × ((span_at spans k).id < next)
  pub behind : (i k : ℕ) → i < k → k < length spans → (span_at spans i).end ≤ (span_at spans k).start
  pub climbing : Climbing spans

-- each id has a start and a mark that says whether it is held, and the clauses lie one behind the other
pub record Lies (ids starts : List ℕ) (held : List Bool) (end next : ℕ) : Type 0 where
  pub begun : length starts ≡ length ids
  pub marked : length held ≡ length ids
  pub laid : Laid (spans ids starts held end) end next

-- the id is none of these
abbrev pub NoId : List ℕ → ℕ → Type 0
NoId ids id = (k : ℕ) → k < length ids → number_at ids k ≡ id → ⊥

-- the id is the one at the place
abbrev pub IsId : List ℕ → ℕ → ℕ → Type 0
IsId ids id k = (k < length ids) × (number_at ids k ≡ id)

-- the ids whose marks are set
abbrev pub marked : List ℕ → List Bool → List ℕ
marked [] marks = []
marked (id ∷ ids) [] = []
marked (id ∷ ids) (mark ∷ marks) = if mark then id ∷ marked ids marks else marked ids marks

-- where the held clauses begin once they lie one behind the other, from a place on
abbrev pub packed_starts : List ℕ → List Bool → ℕ → ℕ → List ℕ
packed_starts [] held end from = []
packed_starts (start ∷ starts) [] end from = []
packed_starts (start ∷ starts) (is_held ∷ held) end from =
    if is_held then from ∷ packed_starts starts held end (from + (start_of starts end - start))
    else packed_starts starts held end from

-- the codes of the held clauses, one clause behind the other
abbrev pub packed : List ℕ → List ℕ → List Bool → List ℕ
packed all [] held = []
packed all (start ∷ starts) [] = []
packed all (start ∷ starts) (is_held ∷ held) =
    if is_held then slice_range all start (start_of starts (length all)) ++ packed all starts held
    else packed all starts held

-- no span has the id
abbrev pub NoSpan : List Span → ℕ → Type 0
NoSpan spans id = (k : ℕ) → k < length spans → (span_at spans k).id ≡ id → ⊥

-- the span at the place has the id
abbrev pub IsSpan : List Span → ℕ → ℕ → Type 0
IsSpan spans id k = (k < length spans) × ((span_at spans k).id ≡ id)

-- whether the id was held, and what is held without it
abbrev pub Removes : Coded → Coded → ℕ → Bool → Type 0
Removes held now id was_held =
    MatchBool was_held (IsSome (held id) × (now ≡ without_code held id)) (held id ≡ None)

abbrev pub literals : Option (List ℕ) → Option (List ℤ)
literals None = None
literals (Some codes) = Some (lits_of codes)

-- which clause each id holds, as literals
abbrev pub held_of : Clauses → Held
held_of store = λ id. literals (coded store id)

-- the literals of each held clause have complements
abbrev pub AreHeld : Held → Type 0
AreHeld held = (id : ℕ) (clause : List ℤ) → held id ≡ Some clause → AreLits clause

-- whether the id was held, and what is held without it, as literals
abbrev pub Forgets : Held → Held → ℕ → Bool → Type 0
Forgets held now id was_held =
    MatchBool was_held (IsSome (held id) × (now ≡ without_clause held id)) (held id ≡ None)

-- what a deletion leaves, or why it is refused
abbrev pub Deletes : Held → Result (Unit {0}) StepFault → Result Held StepFault → Type 0
Deletes now (Ok u) wanted = wanted ≡ Ok now
Deletes now (Err e) wanted = OrMemory e (wanted ≡ Err e)

abbrev pub OnlyMemory : {X : Type 0} → Result X StepFault → Type 0
OnlyMemory (Ok x) = Unit {0}
OnlyMemory (Err e) = e ≡ Memory
