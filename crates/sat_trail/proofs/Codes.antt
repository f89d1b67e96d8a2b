-- Numbers of literals by their codes, and sets of codes.
use Rattle.std.proofs.Common.{◌≡◌, ℕ, zero, suc, true, eqb, ◌||◌, List, [], ◌∷◌, ◌++◌, ℤ, neg_ℤ}
use Rattle.std.proofs.Common.{get_or, refl, ap, sym, ◌∙◌, inl, inr, arith}
use Rattle.std.proofs.Common.{w64, to_z, of_z}
use Rattle.std.proofs.lemmas.Int.{to_z-of_z, fits_signed_from_abs}
use Rattle.std.specs.Ordering.{int_eq}
use Rattle.std.proofs.lemmas.Bool.{false≢true, cases_Bool}
use Rattle.lrat_check.specs.Codes.{code_of, lit_of, codes_of, flip}
use Rattle.lrat_check.specs.Sets.{has, IsLit}
use Rattle.lrat_check.proofs.Codes.{lit_code, code_lit, flip_code}
use Rattle.sat_trail.specs.Trail.{has_code}
use Rattle.sat_trail.proofs.Members.{same_is, same_self}

-- a list that is filled up with 0
pub widened : (places : List ℕ) (k : ℕ) → get_or (places ++ 0 ∷ []) k 0 ≡ get_or places k 0
widened [] zero = refl
widened [] (suc k) = refl
widened (p ∷ ps) zero = refl
widened (p ∷ ps) (suc k) = widened ps k

-- codes are equal where the literals are
pub same_at : (l m : ℤ) → eqb (code_of l) (code_of m) ≡ int_eq l m
same_at l m = elim (cases_Bool (int_eq l m)) [
  | inl e ↦ eq_self (code_of l) (code_of m) (ap code_of (same_is l m e)) ∙ sym e
  | inr e ↦ elim (cases_Bool (eqb (code_of l) (code_of m))) [
    | inl k ↦ absurd (false≢true (sym e
        ∙ same_self l m (sym (lit_code l) ∙ ap lit_of (eq_is (code_of l) (code_of m) k) ∙ lit_code m)))
    | inr k ↦ k ∙ sym e
  ]
] where
  eq_is : (a b : ℕ) → eqb a b ≡ true → a ≡ b
  eq_is a b e = grind (arith, e)

  eq_self : (a b : ℕ) → a ≡ b → eqb a b ≡ true
  eq_self a b e = grind (arith, e)

-- a set and the codes of its literals
pub codes_has : (set : List ℤ) (l : ℤ) → has_code (codes_of set) (code_of l) ≡ has set l
codes_has [] l = refl
codes_has (m ∷ ms) l =
    ap (λ b. b || has_code (codes_of ms) (code_of l)) (same_at l m) ∙ ap (λ b. int_eq l m || b) (codes_has ms l)

pub code_true : (set : List ℤ) (n : ℕ) → IsLit (lit_of n) → has set (lit_of n) ≡ has_code (codes_of set) n
code_true set n i = sym (codes_has set (lit_of n)) ∙ ap (has_code (codes_of set)) (code_lit n i)

pub code_false : (set : List ℤ) (n : ℕ) → IsLit (lit_of n)
    → has set (neg_ℤ (lit_of n)) ≡ has_code (codes_of set) (flip n)
code_false set n i = sym (codes_has set (neg_ℤ (lit_of n))) ∙ ap (has_code (codes_of set)) (sym (flip_code n i))

-- a literal of the code is the number that it stands for
pub lit_kept : (l : ℤ) → IsLit l → to_z w64 (of_z w64 l) ≡ l
lit_kept l i = to_z-of_z w64 l (fits_signed_from_abs w64 l i.1)
