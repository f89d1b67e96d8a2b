-- A clause that is read in one pass.
use Rattle.std.proofs.Common.{◌≡◌, ℕ, ◌+◌, ◌<◌, ◌≤◌, Bool, true, false, cond, List, [], ◌∷◌, ℤ, length, drop, get_or}
use Rattle.std.proofs.Common.{refl, ap, sym, ◌∙◌, arith}
use Rattle.std.specs.Prelude.{◌&&◌, ◌||◌, not, Some}
use Rattle.std.specs.List.{list_any}
use Rattle.std.specs.Ordering.{int_eq}
use Rattle.std.proofs.lemmas.Bool.{false≢true}
use Rattle.std.proofs.lemmas.List.{drop_more}
use Rattle.std.proofs.Math.ListN.{drop_of_length-le}
use Rattle.lrat_check.specs.declared.reading.Reading.{Reading}
use Rattle.lrat_check.specs.declared.reading.Reading.TheVariants as read
use Rattle.lrat_check.specs.Codes.{lit_of, lits_of}
use Rattle.lrat_check.specs.Sets.{has, is_false, first_open, other_open, reading_of, reading, with_open}

-- how a clause goes on to read whose further literals are these, if none is true
abbrev pub opened : List ℤ → Reading → List ℤ → Reading
opened set seen [] = seen
opened set seen (l ∷ ls) = cond (is_false set l) (opened set seen ls) (opened set (with_open l seen) ls)

module _ (set : List ℤ) where
  open_stays : (ls : List ℤ) → opened set read.Open ls ≡ read.Open
  open_stays [] = refl
  open_stays (l ∷ ls) = at (is_false set l) (open_stays ls) where
    at : (b : Bool) → opened set read.Open ls ≡ read.Open
        → cond b (opened set read.Open ls) (opened set read.Open ls) ≡ read.Open
    at true h = h
    at false h = h

  turned : (l m : ℤ) → int_eq l m ≡ int_eq m l
  turned l m = grind arith

  unit_at : (l : ℤ) (ms : List ℤ) (b e f : Bool) → e ≡ f
      → opened set (read.Unit l) ms ≡ cond (other_open set l ms) read.Open (read.Unit l)
      → cond b (opened set (read.Unit l) ms) (opened set (cond f (read.Unit l) read.Open) ms)
      ≡ cond ((not b && not e) || other_open set l ms) read.Open (read.Unit l)
  unit_at l ms true e f q h = h
  unit_at l ms false true true q h = h
  unit_at l ms false true false q h = absurd (false≢true (sym q))
  unit_at l ms false false true q h = absurd (false≢true q)
  unit_at l ms false false false q h = open_stays ms

  unit_goes : (l : ℤ) (ls : List ℤ)
      → opened set (read.Unit l) ls ≡ cond (other_open set l ls) read.Open (read.Unit l)
  unit_goes l [] = refl
  unit_goes l (m ∷ ms) = unit_at l ms (is_false set m) (int_eq l m) (int_eq m l) (turned l m) (unit_goes l ms)

  self : (m : ℤ) → int_eq m m ≡ true
  self m = grind arith

  false_at : (m : ℤ) (ms : List ℤ) (b e : Bool) → e ≡ true
      → opened set read.False ms ≡ reading_of (first_open set ms) (λ l. other_open set l ms)
      → cond b (opened set read.False ms) (opened set (read.Unit m) ms)
      ≡ reading_of (cond b (first_open set ms) (Some m)) (λ l. (not b && not (int_eq l m)) || other_open set l ms)
  false_at m ms true e q h = h
  false_at m ms false e q h =
      unit_goes m ms ∙ ap (λ z. cond ((not false && not z) || other_open set m ms) read.Open (read.Unit m))
      (sym (self m))

  -- from the start on, that is how it reads
  pub from_false : (ls : List ℤ) → opened set read.False ls ≡ reading_of (first_open set ls) (λ l. other_open set l ls)
  from_false [] = refl
  from_false (m ∷ ms) = false_at m ms (is_false set m) (int_eq m m) (self m) (from_false ms)

-- none of the literals so far was true, and the others go on
abbrev pub Going : List ℤ → List ℕ → ℕ → Reading → Type 0
Going set codes i seen =
    (list_any (has set) (lits_of (drop i codes)) ≡ list_any (has set) (lits_of codes))
    × (opened set seen (lits_of (drop i codes)) ≡ opened set read.False (lits_of codes))

module _ (set : List ℤ) (codes : List ℕ) (i : ℕ) (seen : Reading) (h : i < length codes)
    (g : Going set codes i seen) where
  abbrev lit : ℤ
  lit = lit_of (get_or codes i 0)

  more : lits_of (drop i codes) ≡ lit ∷ lits_of (drop (i + 1) codes)
  more = ap lits_of (drop_more codes i 0 h)

  -- a true literal
  pub is_true : has set lit ≡ true → reading set (lits_of codes) ≡ read.True
  is_true t =
      let a : list_any (has set) (lits_of codes) ≡ true =
      sym g.0 ∙ ap (list_any (has set)) more ∙ ap (λ b. b || list_any (has set) (lits_of (drop (i + 1) codes))) t in
      ap (λ b. cond b read.True (reading_of (first_open set (lits_of codes)) (λ l. other_open set l (lits_of codes)))) a

  none_true : has set lit ≡ false
      → list_any (has set) (lits_of (drop (i + 1) codes)) ≡ list_any (has set) (lits_of codes)
  none_true t =
      sym (ap (list_any (has set)) more ∙ ap (λ b. b || list_any (has set) (lits_of (drop (i + 1) codes))) t) ∙ g.0

  -- a false literal
  pub goes_past : has set lit ≡ false → is_false set lit ≡ true → Going set codes (i + 1) seen
  goes_past t f = (
    none_true t,
    sym (ap (opened set seen) more
        ∙ ap (λ b. cond b (opened set seen (lits_of (drop (i + 1) codes)))
        (opened set (with_open lit seen) (lits_of (drop (i + 1) codes)))) f) ∙ g.1,
  )

  -- an open literal
  pub goes_on : (now : Reading) → has set lit ≡ false → is_false set lit ≡ false → now ≡ with_open lit seen
      → Going set codes (i + 1) now
  goes_on now t f e = (
    none_true t,
    ap (λ z. opened set z (lits_of (drop (i + 1) codes))) e
        ∙ sym (ap (opened set seen) more
        ∙ ap (λ b. cond b (opened set seen (lits_of (drop (i + 1) codes)))
        (opened set (with_open lit seen) (lits_of (drop (i + 1) codes)))) f) ∙ g.1,
  )

-- all were read
pub all_read : (set : List ℤ) (codes : List ℕ) (i : ℕ) (seen : Reading) → length codes ≤ i → Going set codes i seen
    → reading set (lits_of codes) ≡ seen
all_read set codes i seen h g =
    let e : drop i codes ≡ [] = drop_of_length-le codes h in
    let a : list_any (has set) (lits_of codes) ≡ false =
    sym g.0 ∙ ap (λ z. list_any (has set) (lits_of z)) e in
    ap (λ b. cond b read.True (reading_of (first_open set (lits_of codes)) (λ l. other_open set l (lits_of codes)))) a
    ∙ sym (from_false set (lits_of codes)) ∙ sym g.1 ∙ ap (λ z. opened set seen (lits_of z)) e
