-- Numbers of at most 18 digits: the literals of few variables, and hints that are ids of held clauses.
use Rattle.std.proofs.Common.{◌≡◌, ℕ, ◌^◌, ◌<◌, ◌≤◌, Bool, true, false, if◌then◌else◌, List, [], ◌∷◌, ◌++◌, ℤ, Option}
use Rattle.std.proofs.Common.{Some, None, refl, arith}
use Rattle.std.specs.Prelude.{unsigned_abs, slice_get}
use Rattle.std.specs.List.{AllByRecursion}
use Rattle.cnf_form.specs.Cnf.{AreLiterals}
use Rattle.lrat_check.specs.declared.reading.Reading.{Reading}
use Rattle.lrat_check.specs.declared.reading.Reading.TheVariants as read
use Rattle.lrat_check.specs.Sets.{reading}
use Rattle.lrat_check.specs.Steps.{Held, is_empty}
use Rattle.lrat_check.specs.Resolved.{resolvent, resolved_by, resolved_on, resolved_with}
use Rattle.lrat_check.specs.Texts.{IsShortLiteral}
use Rattle.sat_search.specs.Ledger.{HoldsBy}
use Rattle.sat_search.proofs.Places.{none_some}

pub literals_short : (vars : ℕ) (lits : List ℤ) → vars < 10 ^ 18 → AreLiterals vars lits
    → AllByRecursion IsShortLiteral lits
literals_short vars [] w h = tt
literals_short vars (l ∷ ls) w h = ((h.0.0, omega (arith, h.0.1, w)), literals_short vars ls w h.1)

-- ---- each hint that is resolved with is held

module _ (held : Held) where
  abbrev IsHeld : ℤ → Type 0
  IsHeld h = (clause : List ℤ) × (held (unsigned_abs h) ≡ Some clause)

  by_last : (last : Bool) (clause r : List ℤ) (hs : List ℤ) → is_empty hs ≡ last
      → (if last then Some clause else None) ≡ Some r → AllByRecursion IsHeld hs
  by_last true clause r [] e g = tt
  by_last true clause r (h ∷ hs) e g = absurd (let f : ⊥ = cc in f)
  by_last false clause r hs e g = absurd (none_some r g)

  by_unit : (clause r : List ℤ) (l : ℤ) (o : Option (List ℤ)) (hs : List ℤ) → resolved_on clause l o ≡ Some r
      → ((q : List ℤ) → o ≡ Some q → AllByRecursion IsHeld hs) → AllByRecursion IsHeld hs
  by_unit clause r l None hs e rest = absurd (none_some r e)
  by_unit clause r l (Some q) hs e rest = rest q refl

  by_reading : (now : Reading) (clause r : List ℤ) (hs : List ℤ) (next : ℤ → Option (List ℤ))
      → resolved_by now clause (is_empty hs) next ≡ Some r
      → ((l : ℤ) (q : List ℤ) → next l ≡ Some q → AllByRecursion IsHeld hs) → AllByRecursion IsHeld hs
  by_reading read.True clause r hs next e rest = absurd (none_some r e)
  by_reading read.False clause r hs next e rest = by_last (is_empty hs) clause r hs refl e
  by_reading (read.Unit l) clause r hs next e rest = by_unit clause r l (next l) hs e (rest l)
  by_reading read.Open clause r hs next e rest = absurd (none_some r e)

  by_clause : (set : List ℤ) (h : ℤ) (hs r : List ℤ) (o : Option (List ℤ)) → held (unsigned_abs h) ≡ o
      → resolved_with o set (is_empty hs) (λ l. resolvent held (set ++ l ∷ []) hs) ≡ Some r
      → ((s q : List ℤ) → resolvent held s hs ≡ Some q → AllByRecursion IsHeld hs)
      → AllByRecursion IsHeld (h ∷ hs)
  by_clause set h hs r None g e rest = absurd (none_some r e)
  by_clause set h hs r (Some clause) g e rest = (
    (clause, g),
    by_reading (reading set clause) clause r hs (λ l. resolvent held (set ++ l ∷ []) hs) e
        (λ l q k. rest (set ++ l ∷ []) q k),
  )

  pub all_held : (set hints r : List ℤ) → resolvent held set hints ≡ Some r → AllByRecursion IsHeld hints
  all_held set [] r e = absurd (none_some r e)
  all_held set (h ∷ hs) r e =
      by_clause set h hs r (held (unsigned_abs h)) refl e (λ s q k. all_held s hs q k)

-- ---- and so an id among the ids that are held

module _ (held : Held) (ids : List ℕ) (clauses : List (List ℤ)) (b : HoldsBy held ids clauses) (top : ℕ)
    (up_to : (place id : ℕ) → slice_get ids place ≡ Some id → id ≤ top)
    (some : (place id : ℕ) → slice_get ids place ≡ Some id → 0 < id) (most : top < 10 ^ 18) where
  one_short : (h : ℤ) → IsHeld held h → IsShortLiteral h
  one_short h k =
      let o = b.of (unsigned_abs h) k.0 k.1 in
      let least = some o.0 (unsigned_abs h) o.1 in
      let last = up_to o.0 (unsigned_abs h) o.1 in
      (least, omega (arith, last, most))

  all_short : (hints : List ℤ) → AllByRecursion (IsHeld held) hints → AllByRecursion IsShortLiteral hints
  all_short [] h = tt
  all_short (l ∷ ls) h = (one_short l h.0, all_short ls h.1)

  pub hints_short : (set hints r : List ℤ) → resolvent held set hints ≡ Some r → AllByRecursion IsShortLiteral hints
  hints_short set hints r e = all_short hints (all_held held set hints r e)
