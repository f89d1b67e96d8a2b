-- Clauses as codes and as literals.
use Rattle.std.proofs.Common.{◌≡◌, ℕ, zero, suc, ◌<◌, Bool, true, false, cond, eqb, List, [], ◌∷◌, ℤ}
use Rattle.std.proofs.Common.{length, get_or, w64, to_z, of_z, Option, Some, None, refl, ap, sym, subst, ◌∙◌}
use Rattle.std.proofs.Common.{arith}
use Rattle.std.specs.Prelude.{IsSome}
use Rattle.std.specs.List.{list_any}
use Rattle.std.proofs.lemmas.Bool.{false≢true}
use Rattle.std.proofs.lemmas.Int.{to_z-of_z, fits_signed_from_abs}
use mathlib.Core.Path.{fun_ext}
use Rattle.lrat_check.specs.Codes.{lit_of, codes_of, lits_of}
use Rattle.lrat_check.specs.declared.reading.Reading.{Reading}
use Rattle.lrat_check.specs.declared.reading.Reading.TheVariants as read
use Rattle.lrat_check.specs.Sets.{has, is_false, first_open, other_open, reading_of, reading, IsLit, AreLits}
use Rattle.lrat_check.specs.Steps.{Held, with_clause}
use Rattle.lrat_check.specs.Store.{Coded, with_code, literals, Removes, Forgets}
use Rattle.lrat_check.proofs.Codes.{lits_codes}

abbrev held : Coded → Held
held f = λ i. literals (f i)

module _ (f g : Coded) (id : ℕ) (lits : List ℤ) where
  with_at : (t : Bool) (i : ℕ) → literals (cond t (Some (codes_of lits)) (f i)) ≡ cond t (Some lits) (literals (f i))
  with_at true i = ap Some (lits_codes lits)
  with_at false i = refl

  pub adds : g ≡ with_code f id (codes_of lits) → held g ≡ with_clause (held f) id lits
  adds e = fun_ext (λ i. ap (λ h. literals (h i)) e ∙ with_at (eqb id i) i)

some_lits : (o : Option (List ℕ)) → IsSome o → IsSome (literals o)
some_lits None s = absurd (false≢true s)
some_lits (Some codes) s = refl

module _ (f g : Coded) (id : ℕ) where
  without_at : (t : Bool) (i : ℕ) → literals (cond t None (f i)) ≡ cond t None (literals (f i))
  without_at true i = refl
  without_at false i = refl

  pub forgets : (was : Bool) → Removes f g id was → Forgets (held f) (held g) id was
  forgets true h = (some_lits (f id) h.0, fun_ext (λ i. ap (λ k. literals (k i)) h.1 ∙ without_at (eqb id i) i))
  forgets false h = ap literals h

-- a code of a clause
pub code_at : (codes : List ℕ) (i : ℕ) → AreLits (lits_of codes) → i < length codes → IsLit (lit_of (get_or codes i 0))
code_at [] i a h = absurd (omega (arith, h))
code_at (c ∷ cs) zero a h = a.0
code_at (c ∷ cs) (suc i) a h = code_at cs i a.1 (omega (arith, h))

-- a literal as it is passed on
pub lit_passed : (l m : ℤ) → IsLit m → l ≡ m → IsLit (to_z w64 (of_z w64 l))
lit_passed l m k e =
    let f : IsLit l = subst IsLit (sym e) k in
    subst IsLit (sym (to_z-of_z w64 l (fits_signed_from_abs w64 l f.1))) f

open_at : (b : Bool) (rest : Option ℤ) (m l : ℤ) → IsLit m → (rest ≡ Some l → IsLit l)
    → cond b rest (Some m) ≡ Some l → IsLit l
open_at true rest m l i f e = f e
open_at false rest m l i f e = subst IsLit (some_is e) i where
  some_is : Some m ≡ Some l → m ≡ l
  some_is h = cc

open_lit : (set c : List ℤ) (l : ℤ) → AreLits c → first_open set c ≡ Some l → IsLit l
open_lit set [] l a e = absurd (none_some e) where
  none_some : None ≡ Some l → ⊥
  none_some h = cc
open_lit set (m ∷ ms) l a e = open_at (is_false set m) (first_open set ms) m l a.0 (open_lit set ms l a.1) e

unit_first : (o : Option ℤ) (other : ℤ → Bool) (l : ℤ) → reading_of o other ≡ read.Unit l → o ≡ Some l
unit_first None other l e = absurd (at e) where
  at : read.False ≡ read.Unit l → ⊥
  at h = cc
unit_first (Some m) other l e = at (other m) e where
  at : (b : Bool) → cond b read.Open (read.Unit m) ≡ read.Unit l → Some m ≡ Some l
  at true h = absurd (no h) where
    no : read.Open ≡ read.Unit l → ⊥
    no k = cc
  at false h = cc

unit_reading : (b : Bool) (rest : Reading) (l : ℤ) → cond b read.True rest ≡ read.Unit l → rest ≡ read.Unit l
unit_reading true rest l e = absurd (at e) where
  at : read.True ≡ read.Unit l → ⊥
  at h = cc
unit_reading false rest l e = e

-- a clause's one open literal is one of its literals
pub unit_lit : (set c : List ℤ) (l : ℤ) → AreLits c → reading set c ≡ read.Unit l → IsLit l
unit_lit set c l a e = open_lit set c l a (unit_first (first_open set c) (λ m. other_open set m c) l
    (unit_reading (list_any (has set) c) (reading_of (first_open set c) (λ m. other_open set m c)) l e))
