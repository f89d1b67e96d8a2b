-- A phrase along which a run is cut off where a construct too many opens. The room is the number of constructs that
-- may be open, and so many of them are open before the phrase.
use Rattle.std.proofs.Common.{◌≡◌, ℕ, zero, suc, Bool, true, false, List, [], ◌∷◌, length, refl, sym, ap, ◌∙◌}
use Rattle.std.specs.Prelude.{Result, Ok, Err}
use Rattle.fv_text.specs.declared.kind.Kind.{Kind}
use Rattle.vl_tree.specs.Phrase.{Phrase, nothing, token, operator, ◌▸◌, at, within, level}
use Rattle.vl_parse_grammar.specs.Machine as machine
use Rattle.vl_parse_grammar.specs.Machine.{Row, Move, take, pop, bad, Fault, syntax, deep, Stepped, stuck, emptied}
use Rattle.vl_parse_grammar.specs.Machine.{over}
use Rattle.vl_parse_grammar.specs.Machine.{goes, fits, left, placed, taken, step, all_end}
use Rattle.vl_parse_grammar.specs.Grammar.{Rule, Moves, expand, ends}
use Rattle.vl_parse_grammar.proofs.Onto.{onto}
use Rattle.vl_parse_grammar.proofs.Steps as steps
use Rattle.vl_parse_grammar.proofs.Steps.{apart, is_pop}

abbrev pub Ran : Type 0
Ran = Result (Unit {0}) Fault

abbrev pub run : Row Rule → List Kind → Ran
run xs ts = machine.run expand ends xs ts

abbrev pub held : Bool → ℕ → Ran → Ran
held true l out = out
held false l out = Err (deep l)

abbrev pub opening : Bool → Bool → ℕ → Ran → Ran
opening true b l out = held b l out
opening false b l out = out

abbrev pub either : Bool → Bool → Bool
either true b = true
either false b = b

abbrev pub has_token : Phrase → Bool
has_token nothing = false
has_token (token kind) = true
has_token (operator kind) = true
has_token (a ▸ b) = either (has_token a) (has_token b)
has_token (at p a) = has_token a
has_token (within a) = has_token a
has_token (level a) = has_token a

-- how many constructs are open behind the phrase
abbrev pub open_after : Phrase → ℕ → ℕ
open_after nothing n = n
open_after (token kind) n = n
open_after (operator kind) n = suc n
open_after (a ▸ b) n = open_after b (open_after a n)
open_after (at p a) n = open_after a n
open_after (within a) n = n
open_after (level a) n = n

abbrev pub measured : Phrase → ℕ → ℕ → List Kind → Ran → Ran
measured nothing room n rest out = out
measured (token kind) room n rest out = out
measured (operator kind) room n rest out = held (fits (suc n) room) (suc (length rest)) out
measured (a ▸ b) room n rest out = measured a room n (onto b rest) (measured b room (open_after a n) rest out)
measured (at p a) room n rest out = measured a room n rest out
measured (within a) room n rest out =
    opening (has_token a) (fits (suc n) room) (length (onto a rest)) (measured a room (suc n) rest out)
measured (level a) room n rest out = measured a room n rest out

pub held_same : (b : Bool) (l : ℕ) (out other : Ran) → (b ≡ true → out ≡ other) → held b l out ≡ held b l other
held_same true l out other h = h refl
held_same false l out other h = refl

-- a token that opens constructs
pub opened_run : (d room : ℕ) (xs : Row Rule) (ts : List Kind) (out : Ran) → (fits d room ≡ true → run xs ts ≡ out)
    → elim (taken (fits d room) xs) as (λ _. Ran) [
      | stuck ↦ Err (syntax (suc (length ts)))
      | emptied ↦ Err (syntax (suc (length ts)))
      | over ↦ Err (deep (suc (length ts)))
      | goes j ↦ run j ts
    ]
    ≡ held (fits d room) (suc (length ts)) out
opened_run d room xs ts out h = by_room (fits d room) h
  where
    by_room : (b : Bool) → (b ≡ true → run xs ts ≡ out)
        → elim (taken b xs) as (λ _. Ran) [
          | stuck ↦ Err (syntax (suc (length ts)))
          | emptied ↦ Err (syntax (suc (length ts)))
          | over ↦ Err (deep (suc (length ts)))
          | goes j ↦ run j ts
        ]
        ≡ held b (suc (length ts)) out
    by_room true h = h refl
    by_room false h = refl

abbrev pub moved : Row Rule → ℕ → Kind → Moves → Stepped Rule
moved xs room t m = elim m as (λ _. Stepped Rule)
    [ take opened row ↦ taken (fits opened room) (placed room row xs) | pop ↦ step expand xs t | bad ↦ stuck ]

abbrev pub on_step : List Kind → Stepped Rule → Ran
on_step ts found = elim found as (λ _. Ran) [
  | stuck ↦ Err (syntax (suc (length ts)))
  | emptied ↦ Err (syntax (suc (length ts)))
  | over ↦ Err (deep (suc (length ts)))
  | goes j ↦ run j ts
]

pub took_run : (x : Rule) (room : ℕ) (xs : Row Rule) (t : Kind) (ts : List Kind) (d : ℕ) (row : Row Rule) (out : Ran)
    → expand x t ≡ take d row
    → (fits d room ≡ true → run (placed room row xs) ts ≡ out)
    → run ((x, room) ∷ xs) (t ∷ ts) ≡ held (fits d room) (suc (length ts)) out
took_run x room xs t ts d row out e h =
    ap (λ m. on_step ts (moved xs room t m)) e ∙ opened_run d room (placed room row xs) ts out h

-- a rule that is left out
pub leaves_run : (x : Rule) (room : ℕ) (xs : Row Rule) (ts : List Kind) → steps.Leaves expand ends x ts
    → run ((x, room) ∷ xs) ts ≡ run xs ts
leaves_run x room xs [] h =
    ap (λ b. elim (elim b as (λ _. Bool) [ true ↦ all_end ends xs | false ↦ false ]) as
    (λ _. Ran) [ true ↦ Ok tt | false ↦ Err (syntax 0) ]) h
leaves_run x room xs (t ∷ ts) h = by_move (expand x t) h
  where
    by_move : (m : Moves) → is_pop m ≡ true → on_step ts (moved xs room t m) ≡ on_step ts (step expand xs t)
    by_move (take opened row) h = apart h
    by_move pop h = refl
    by_move bad h = apart h

abbrev pub plus : ℕ → ℕ → ℕ
plus zero n = n
plus (suc j) n = suc (plus j n)

plus_suc : (j n : ℕ) → plus j (suc n) ≡ suc (plus j n)
plus_suc zero n = refl
plus_suc (suc j) n = ap suc (plus_suc j n)

plus_zero : (j : ℕ) → plus j 0 ≡ j
plus_zero zero = refl
plus_zero (suc j) = ap suc (plus_zero j)

fits_plus : (j room n : ℕ) → fits j room ≡ true → fits n (left j room) ≡ fits (plus j n) room
fits_plus zero room n h = refl
fits_plus (suc j) zero n h = apart h
fits_plus (suc j) (suc room) n h = fits_plus j room n h

fits_next : (j room n : ℕ) → fits j room ≡ true → fits (suc n) (left j room) ≡ fits (suc (plus j n)) room
fits_next j room n h = fits_plus j room (suc n) h ∙ ap (λ m. fits m room) (plus_suc j n)

after_plus : (a : Phrase) (j n : ℕ) → open_after a (plus j n) ≡ plus j (open_after a n)
after_plus nothing j n = refl
after_plus (token kind) j n = refl
after_plus (operator kind) j n = sym (plus_suc j n)
after_plus (a ▸ b) j n = ap (open_after b) (after_plus a j n) ∙ after_plus b j (open_after a n)
after_plus (at p a) j n = after_plus a j n
after_plus (within a) j n = refl
after_plus (level a) j n = refl

shift : (a : Phrase) (j room n : ℕ) (rest : List Kind) (out : Ran) → fits j room ≡ true
    → measured a (left j room) n rest out ≡ measured a room (plus j n) rest out
shift nothing j room n rest out h = refl
shift (token kind) j room n rest out h = refl
shift (operator kind) j room n rest out h = ap (λ b. held b (suc (length rest)) out) (fits_next j room n h)
shift (a ▸ b) j room n rest out h =
    shift a j room n (onto b rest) (measured b (left j room) (open_after a n) rest out) h
    ∙ ap (measured a room (plus j n) (onto b rest))
    (shift b j room (open_after a n) rest out h ∙ ap (λ m. measured b room m rest out) (sym (after_plus a j n)))
shift (at p a) j room n rest out h = shift a j room n rest out h
shift (within a) j room n rest out h =
    (let inner : measured a (left j room) (suc n) rest out ≡ measured a room (suc (plus j n)) rest out =
    shift a j room (suc n) rest out h ∙ ap (λ m. measured a room m rest out) (plus_suc j n) in
    λ i. opening (has_token a) (fits_next j room n h i) (length (onto a rest)) (inner i))
shift (level a) j room n rest out h = shift a j room n rest out h

-- in less room with none open, and in the room with some
pub shifted : (a : Phrase) (j room : ℕ) (rest : List Kind) (out : Ran) → fits j room ≡ true
    → measured a (left j room) 0 rest out ≡ measured a room j rest out
shifted a j room rest out h = shift a j room 0 rest out h ∙ ap (λ m. measured a room m rest out) (plus_zero j)

both_false : (a b : Bool) → either a b ≡ false → (a ≡ false) × (b ≡ false)
both_false true b h = apart (sym h)
both_false false b h = (refl, h)

none : (a : Phrase) (room n : ℕ) (rest : List Kind) (out : Ran) → has_token a ≡ false → measured a room n rest out ≡ out
none nothing room n rest out h = refl
none (token kind) room n rest out h = apart (sym h)
none (operator kind) room n rest out h = apart (sym h)
none (a ▸ b) room n rest out h =
    (let (f, g) = both_false (has_token a) (has_token b) h in
    none a room n (onto b rest) (measured b room (open_after a n) rest out) f ∙ none b room (open_after a n) rest out g)
none (at p a) room n rest out h = none a room n rest out h
none (within a) room n rest out h =
    ap (λ b. opening b (fits (suc n) room) (length (onto a rest)) (measured a room (suc n) rest out)) h
    ∙ none a room (suc n) rest out h
none (level a) room n rest out h = none a room n rest out h

-- what comes behind the phrase matters only where there is room up to its end
pub inner : (a : Phrase) (room n : ℕ) (rest : List Kind) (out other : Ran) → fits n room ≡ true
    → (fits (open_after a n) room ≡ true → out ≡ other) → measured a room n rest out ≡ measured a room n rest other
inner nothing room n rest out other h next = next h
inner (token kind) room n rest out other h next = next h
inner (operator kind) room n rest out other h next = held_same (fits (suc n) room) (suc (length rest)) out other next
inner (a ▸ b) room n rest out other h next =
    inner a room n (onto b rest) (measured b room (open_after a n) rest out)
    (measured b room (open_after a n) rest other) h
    (λ e. inner b room (open_after a n) rest out other e next)
inner (at p a) room n rest out other h next = inner a room n rest out other h next
inner (level a) room n rest out other h next = inner a room n rest out other h (λ e. next h)
inner (within a) room n rest out other h next =
    by_token (has_token a) refl (λ f. inner a room (suc n) rest out other f (λ g. next h))
  where
    by_token : (b : Bool) → has_token a ≡ b
        → (fits (suc n) room ≡ true → measured a room (suc n) rest out ≡ measured a room (suc n) rest other)
        → opening b (fits (suc n) room) (length (onto a rest)) (measured a room (suc n) rest out)
        ≡ opening b (fits (suc n) room) (length (onto a rest)) (measured a room (suc n) rest other)
    by_token true e same = held_same (fits (suc n) room) (length (onto a rest)) _ _ same
    by_token false e same = none a room (suc n) rest out e ∙ next h ∙ sym (none a room (suc n) rest other e)
