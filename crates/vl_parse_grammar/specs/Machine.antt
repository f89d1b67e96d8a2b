-- Between functions: A grammar as a machine with a stack of symbols that are still to come, the next one first. A
-- token either takes the place of the next symbol by a row of symbols, or the symbol is left out, or the token is
-- wrong. Each symbol on the stack has a room, the number of constructs that may still open there. Rule of this
-- project: a predictive parser with one token of lookahead.
use Rattle.std.specs.Prelude.{
  ◌≡◌,
  ℕ,
  zero,
  suc,
  Bool,
  true,
  false,
  List,
  [],
  ◌∷◌,
  ◌++◌,
  length,
  Result,
  Ok,
  Err,
  Option,
  Some,
  None,
}

-- symbols that are to come, each with a number
abbrev pub Row : Type 0 → Type 0
Row S = List (S × ℕ)

-- what the next symbol makes of a token
pub data Move (S : Type 0) : Type 0 where
  -- so many constructs are open at the token beyond those around the symbol, where it opens one, and 0 where it opens
  -- none; of these so many stay open around each symbol of the row
  take : ℕ → Row S → Move S
  -- the symbol is left out before the token
  pop : Move S
  bad : Move S

-- how a text is refused, with the number of tokens from the faulty one on: a wrong token, or a right one that opens a
-- construct too many
pub data Fault : Type 0 where
  syntax : ℕ → Fault
  deep : ℕ → Fault

pub data Stepped (S : Type 0) : Type 0 where
  stuck : Stepped S
  -- nothing more is to come
  emptied : Stepped S
  -- a construct too many
  over : Stepped S
  goes : Row S → Stepped S

abbrev pub fits : ℕ → ℕ → Bool
fits zero room = true
fits (suc opened) zero = false
fits (suc opened) (suc room) = fits opened room

-- the room that is left behind so many constructs
abbrev pub left : ℕ → ℕ → ℕ
left zero room = room
left (suc opened) zero = zero
left (suc opened) (suc room) = left opened room

-- the row in the place of a symbol with the room, before what comes behind it
abbrev pub placed : {S : Type 0} → ℕ → Row S → Row S → Row S
placed room [] k = k
placed room (x ∷ row) k = (x.0, left x.1 room) ∷ placed room row k

abbrev pub taken : {S : Type 0} → Bool → Row S → Stepped S
taken true k = goes k
taken false k = over

module _ {S T : Type 0} (expand : S → T → Move S) where
  abbrev pub step : Row S → T → Stepped S
  step [] t = emptied
  step (x ∷ k) t =
      elim (expand x.0 t) [
        | take opened row ↦ taken (fits opened x.1)
            (placed x.1 row k)
        | pop ↦ step k t
        | bad ↦ stuck
      ]

-- all symbols may be left out at the end of the text
abbrev pub all_end : {S : Type 0} → (S → Bool) → Row S → Bool
all_end ends [] = true
all_end ends (x ∷ k) = elim (ends x.0) [ true ↦ all_end ends k | false ↦ false ]

module _ {S T : Type 0} (expand : S → T → Move S) (ends : S → Bool) where
  -- the whole text is these symbols
  abbrev pub run : Row S → List T → Result (Unit {0}) Fault
  run k [] = elim (all_end ends k) [ true ↦ Ok tt | false ↦ Err (syntax 0) ]
  run k (t ∷ ts) = elim (step expand k t) [
    | stuck ↦ Err (syntax (suc (length ts)))
    | emptied ↦ Err (syntax (suc (length ts)))
    | over ↦ Err (deep (suc (length ts)))
    | goes j ↦ run j ts
  ]

  -- what is behind the tokens of these symbols
  unfoldable pub reads : Row S → List T → Result (List T) Fault
  reads [] ts = Ok ts
  reads (x ∷ k) [] = elim (all_end ends (x ∷ k)) [ true ↦ Ok [] | false ↦ Err (syntax 0) ]
  reads (x ∷ k) (t ∷ ts) = elim (step expand (x ∷ k) t) [
    | stuck ↦ Err (syntax (suc (length ts)))
    | emptied ↦ Ok (t ∷ ts)
    | over ↦ Err (deep (suc (length ts)))
    | goes j ↦ reads j ts
  ]

-- one behind the other; the first fault decides
abbrev pub then : {A B : Type 0} → Result A Fault → (A → Result B Fault) → Result B Fault
then (Ok a) f = f a
then (Err e) f = Err e

-- The same without a bound on what is open: the language of the grammar.

abbrev pub symbols : {S : Type 0} → Row S → List S
symbols [] = []
symbols (x ∷ k) = x.0 ∷ symbols k

module _ {S T : Type 0} (expand : S → T → Move S) where
  abbrev pub free_step : List S → T → Option (List S)
  free_step [] t = None
  free_step (x ∷ k) t =
      elim (expand x t) [ take opened row ↦ Some (symbols row ++ k) | pop ↦ free_step k t | bad ↦ None ]

  -- what is to come behind the tokens, where no token is wrong
  abbrev pub free_after : List S → List T → Option (List S)
  free_after k [] = Some k
  free_after k (t ∷ ts) = elim (free_step k t) [ None ↦ None | Some j ↦ free_after j ts ]

abbrev pub all_may_end : {S : Type 0} → (S → Bool) → List S → Bool
all_may_end ends [] = true
all_may_end ends (x ∷ k) = elim (ends x) [ true ↦ all_may_end ends k | false ↦ false ]

module _ {S T : Type 0} (expand : S → T → Move S) (ends : S → Bool) where
  -- the tokens are a whole text of these symbols
  abbrev pub accepts : List S → List T → Bool
  accepts k [] = all_may_end ends k
  accepts k (t ∷ ts) = elim (free_step expand k t) [ None ↦ false | Some j ↦ accepts j ts ]

  -- nothing goes on here: the text may not end, or not go on with this token
  abbrev pub IsStuck : List S → List T → Type 0
  IsStuck k [] = all_may_end ends k ≡ false
  IsStuck k (t ∷ ts) = free_step expand k t ≡ None
