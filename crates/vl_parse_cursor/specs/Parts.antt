-- Between functions: For the proofs of reading: rules are read one behind the other. Rule of this project.
use Rattle.std.proofs.Common.{
  ◌≡◌,
  ℕ,
  zero,
  suc,
  ◌-◌,
  ◌≤◌,
  ◌<◌,
  Bool,
  true,
  false,
  List,
  [],
  ◌∷◌,
  ◌++◌,
  length,
  refl,
}
use Rattle.std.proofs.Common.{sym, ap, ◌∙◌, arith}
use Rattle.std.specs.Prelude.{Ok, Err, map}
use Rattle.fv_text.specs.declared.kind.Kind.{Kind}
use Rattle.vl_parse_grammar.specs.Machine as machine
use Rattle.vl_parse_grammar.specs.Machine.{Row, Move, take, pop, bad, syntax, deep, placed, left, then}
use Rattle.vl_parse_grammar.specs.Grammar.{Rule, Outcome, expand, ends, read, read_all, row, many}
use Rattle.fv_text.specs.declared.kind.Kind.TheVariants as k
use Rattle.fv_text.specs.declared.symbol.Symbol.TheVariants as s
use Rattle.vl_parse_grammar.proofs.InParts as parts

-- the room that is left behind so many constructs
abbrev pub less : ℕ → ℕ → ℕ
less zero room = room
less (suc d) room = room - suc d

-- each in turn, in its room
abbrev pub in_turn : ℕ → Row Rule → List Kind → Outcome
in_turn room [] ts = Ok ts
in_turn room (x ∷ []) ts = read x.0 (less x.1 room) ts
in_turn room (x ∷ y ∷ row) ts = then (read x.0 (less x.1 room) ts) (λ r. in_turn room (y ∷ row) r)

left_is_less : (d room : ℕ) → left d room ≡ less d room
left_is_less zero room = refl
left_is_less (suc d) room = parts.left_less (suc d) room

placed_read : (room : ℕ) (row : Row Rule) (ts : List Kind)
    → machine.reads expand ends (placed room row []) ts ≡ in_turn room row ts
unfolding read machine.reads
placed_read room [] ts = refl
placed_read room (x ∷ []) ts = ap (λ n. read x.0 n ts) (left_is_less x.1 room)
placed_read room (x ∷ y ∷ row) ts =
    parts.in_parts expand ends ((x.0, left x.1 room) ∷ []) (placed room (y ∷ row) []) ts
    ∙ ap (λ n. then (read x.0 n ts) (λ r. machine.reads expand ends (placed room (y ∷ row) []) r))
    (left_is_less x.1 room)
    ∙ ap (λ f. then (read x.0 (less x.1 room) ts) f) (λ i r. placed_read room (y ∷ row) r i)

-- a token that is taken where there is room
pub row_read : (x : Rule) (room : ℕ) (t : Kind) (ts : List Kind) (opened : ℕ) (row : Row Rule)
    → expand x t ≡ take opened row
    → opened ≤ room → read x room (t ∷ ts) ≡ in_turn room row ts
unfolding read
row_read x room t ts opened row e h =
    parts.take_row expand ends x room [] t ts opened row e h ∙ placed_read room row ts

-- and where there is not
pub row_deep : (x : Rule) (room : ℕ) (t : Kind) (ts : List Kind) (opened : ℕ) (row : Row Rule)
    → expand x t ≡ take opened row
    → room < opened → read x room (t ∷ ts) ≡ Err (deep (suc (length ts)))
unfolding read
row_deep x room t ts opened row e h = parts.take_deep expand ends x room [] t ts opened row e h

pub row_popped : (x : Rule) (room : ℕ) (t : Kind) (ts : List Kind) → expand x t ≡ pop
    → read x room (t ∷ ts) ≡ Ok (t ∷ ts)
unfolding read machine.reads
row_popped x room t ts e = parts.pop_row expand ends x room [] t ts e

pub row_bad : (x : Rule) (room : ℕ) (t : Kind) (ts : List Kind) → expand x t ≡ bad
    → read x room (t ∷ ts) ≡ Err (syntax (suc (length ts)))
unfolding read
row_bad x room t ts e = parts.bad_row expand ends x room [] t ts e

-- rules that make the same of a token read the same
pub same_row : (x y : Rule) (room : ℕ) (t : Kind) (ts : List Kind) → expand x t ≡ expand y t
    → read x room (t ∷ ts) ≡ read y room (t ∷ ts)
unfolding read machine.reads
same_row x y room t ts e = ap (λ m. by_step (by_move m)) e
  where
    by_move : machine.Move Rule → machine.Stepped Rule
    by_move (take opened row) = machine.taken (machine.fits opened room) (placed room row [])
    by_move pop = machine.emptied
    by_move bad = machine.stuck

    by_step : machine.Stepped Rule → Outcome
    by_step machine.stuck = Err (syntax (suc (length ts)))
    by_step machine.emptied = Ok (t ∷ ts)
    by_step machine.over = Err (deep (suc (length ts)))
    by_step (machine.goes j) = machine.reads expand ends j ts

pub fits_true : (opened room : ℕ) → machine.fits opened room ≡ true → opened ≤ room
fits_true zero room h = omega arith
fits_true (suc opened) zero h = absurd (differ h)
  where
    differ : false ≡ true → ⊥
    differ h = cc
fits_true (suc opened) (suc room) h = omega (arith, fits_true opened room h)

pub fits_false : (opened room : ℕ) → machine.fits opened room ≡ false → room < opened
fits_false zero room h = absurd (differ h)
  where
    differ : true ≡ false → ⊥
    differ h = cc
fits_false (suc opened) zero h = omega arith
fits_false (suc opened) (suc room) h = omega (arith, fits_false opened room h)

placed_more : (x : Rule) (room : ℕ) (row : Row Rule)
    → placed room (row ++ (x, 0) ∷ []) [] ≡ placed room row [] ++ (x, room) ∷ []
placed_more x room [] = refl
placed_more x room (y ∷ row) = ap (λ r. (y.0, left y.1 room) ∷ r) (placed_more x room row)

-- none or more: one, and then again
pub many_read : (z x y : Rule) (room : ℕ) (t : Kind) (ts : List Kind) (m : Move Rule) → expand z t ≡ many x m
    → expand y t ≡ m
    → (m ≡ pop → ⊥) → read z room (t ∷ ts) ≡ then (read y room (t ∷ ts)) (λ r. read x room r)
unfolding read
many_read z x y room t ts (take opened row) e f h = by_fit (machine.fits opened room) refl
  where
    by_fit : (b : Bool) → machine.fits opened room ≡ b
        → machine.reads expand ends ((z, room) ∷ []) (t ∷ ts) ≡
        then (machine.reads expand ends ((y, room) ∷ []) (t ∷ ts))
        (λ r. machine.reads expand ends ((x, room) ∷ []) r)
    by_fit true g =
        parts.take_row expand ends z room [] t ts opened (row ++ (x, 0) ∷ []) e (fits_true opened room g)
        ∙ ap (λ k. machine.reads expand ends k ts) (placed_more x room row)
        ∙ parts.in_parts expand ends (placed room row []) ((x, room) ∷ []) ts
        ∙ ap (λ a. then a (λ r. machine.reads expand ends ((x, room) ∷ []) r))
        (sym (parts.take_row expand ends y room [] t ts opened row f (fits_true opened room g)))
    by_fit false g =
        parts.take_deep expand ends z room [] t ts opened (row ++ (x, 0) ∷ []) e (fits_false opened room g)
        ∙ ap (λ a. then a (λ r. machine.reads expand ends ((x, room) ∷ []) r))
        (sym (parts.take_deep expand ends y room [] t ts opened row f (fits_false opened room g)))
many_read z x y room t ts pop e f h = absurd (h refl)
many_read z x y room t ts bad e f h =
    parts.bad_row expand ends z room [] t ts e
    ∙ ap (λ a. then a (λ r. machine.reads expand ends ((x, room) ∷ []) r))
    (sym (parts.bad_row expand ends y room [] t ts f))

all_in : (n : ℕ) (xs : List Rule) (ts : List Kind)
    → machine.reads expand ends (map (λ x. (x, n)) xs) ts ≡ in_turn n (row xs) ts
unfolding read machine.reads
all_in n [] ts = refl
all_in n (x ∷ []) ts = refl
all_in n (x ∷ y ∷ xs) ts =
    parts.in_parts expand ends ((x, n) ∷ []) (map (λ x. (x, n)) (y ∷ xs)) ts
    ∙ ap (λ f. then (read x n ts) f) (λ i r. all_in n (y ∷ xs) r i)

-- rules in one room, each in turn
pub read_all_turn : (xs : List Rule) (n : ℕ) (ts : List Kind) → read_all xs n ts ≡ in_turn n (row xs) ts
unfolding read_all
read_all_turn xs n ts = all_in n xs ts

placed_row : (n : ℕ) (xs : List Rule) (x : Rule)
    → placed n (row (xs ++ x ∷ [])) [] ≡ map (λ y. (y, n)) xs ++ (x, n) ∷ []
placed_row n [] x = refl
placed_row n (y ∷ xs) x = ap (λ k. (y, n) ∷ k) (placed_row n xs x)

-- rules in one room, and then what stands behind them
pub list_row : (x tail : Rule) (rules : List Rule) (n : ℕ) (t : Kind) (ts : List Kind)
    → expand x t ≡ take 0 (row (rules ++ tail ∷ []))
    → read x n (t ∷ ts) ≡ then (read_all rules n ts) (λ r. read tail n r)
unfolding read read_all
list_row x tail rules n t ts e =
    parts.take_row expand ends x n [] t ts 0 (row (rules ++ tail ∷ [])) e (omega arith)
    ∙ ap (λ k. machine.reads expand ends k ts) (placed_row n rules tail)
    ∙ parts.in_parts expand ends (map (λ y. (y, n)) rules) ((tail, n) ∷ []) ts

-- behind a comma: one more, and again what stands behind one
pub tail_comma : (tail : Rule) (rules : List Rule) (n : ℕ) (ts : List Kind)
    → expand tail (k.Symbol s.Comma) ≡ take 0 (row (rules ++ tail ∷ []))
    → read tail n (k.Symbol s.Comma ∷ ts) ≡ then (read_all rules n ts) (λ r. read tail n r)
tail_comma tail rules n ts e = list_row tail tail rules n (k.Symbol s.Comma) ts e
