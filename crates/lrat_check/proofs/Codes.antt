-- Literals and their codes.
use Rattle.std.proofs.Common.{◌≡◌, ℕ, zero, suc, ◌+◌, ◌-◌, ◌*◌, ◌/◌, ◌%◌, ◌<◌, cond, eqb}
use Rattle.std.proofs.Common.{List, [], ◌∷◌, ℤ, pos, negsuc, neg_ℤ, refl, ap, sym, subst, ◌∙◌, ◌⊎◌, inl, inr, arith}
use Rattle.std.proofs.lemmas.Bool.{cases_Bool}
use Rattle.std.specs.Prelude.{unsigned_abs}
use Rattle.lrat_check.specs.Codes.{code_of, lit_of, codes_of, lits_of, flip}
use Rattle.lrat_check.specs.Sets.{IsLit}

even : (n m : ℕ) → n ≡ m * 2 → lit_of n ≡ pos m
even n m e =
    let r : n % 2 ≡ 0 = omega (arith, e) in
    let q : n / 2 ≡ m = omega (arith, e) in
    ap (λ z. cond (eqb z 0) (pos (n / 2)) (neg_ℤ (pos (n / 2)))) r ∙ ap pos q

odd : (n m : ℕ) → n ≡ m * 2 + 1 → lit_of n ≡ neg_ℤ (pos m)
odd n m e =
    let r : n % 2 ≡ 1 = omega (arith, e) in
    let q : n / 2 ≡ m = omega (arith, e) in
    ap (λ z. cond (eqb z 0) (pos (n / 2)) (neg_ℤ (pos (n / 2)))) r ∙ ap (λ z. neg_ℤ (pos z)) q

pub lit_code : (l : ℤ) → lit_of (code_of l) ≡ l
lit_code (pos n) = even (n * 2) n refl
lit_code (negsuc n) =
    let e : n + 1 ≡ suc n = omega arith in odd ((n + 1) * 2 + 1) (n + 1) refl ∙ ap (λ z. neg_ℤ (pos z)) e

pub lits_codes : (ls : List ℤ) → lits_of (codes_of ls) ≡ ls
lits_codes [] = refl
lits_codes (l ∷ ls) = ap (λ z. z ∷ lits_of (codes_of ls)) (lit_code l) ∙ ap (λ z. l ∷ z) (lits_codes ls)

parity : (n : ℕ) → (n ≡ n / 2 * 2) ⊎ (n ≡ n / 2 * 2 + 1)
parity n = elim (cases_Bool (eqb (n % 2) 0)) [
  | inl e ↦ inl (grind (arith, e))
  | inr e ↦ inr (grind (arith, e))
]

code_odd : (n m : ℕ) → n ≡ m * 2 + 1 → IsLit (lit_of n)
    → (code_of (lit_of n) ≡ n) × (flip n ≡ code_of (neg_ℤ (lit_of n)))
code_odd n zero e i = absurd (let P : ℤ → Type 0 = λ z. 0 < unsigned_abs z in omega (arith, subst P (odd n 0 e) i.0))
code_odd n (suc m) e i = (
  ap code_of (odd n (suc m) e) ∙ omega (arith, e),
  (let r : n % 2 ≡ 1 = omega (arith, e) in let q : n - 1 ≡ suc m * 2 = omega (arith, e) in
      ap (λ z. cond (eqb z 0) (n + 1) (n - 1)) r ∙ q ∙ ap (λ z. code_of (neg_ℤ z)) (sym (odd n (suc m) e))),
)

code_even : (n m : ℕ) → n ≡ m * 2 → IsLit (lit_of n)
    → (code_of (lit_of n) ≡ n) × (flip n ≡ code_of (neg_ℤ (lit_of n)))
code_even n zero e i = absurd (let P : ℤ → Type 0 = λ z. 0 < unsigned_abs z in omega (arith, subst P (even n 0 e) i.0))
code_even n (suc m) e i = (
  ap code_of (even n (suc m) e) ∙ sym e,
  (let r : n % 2 ≡ 0 = omega (arith, e) in let q : n + 1 ≡ (m + 1) * 2 + 1 = omega (arith, e) in
      ap (λ z. cond (eqb z 0) (n + 1) (n - 1)) r ∙ q ∙ ap (λ z. code_of (neg_ℤ z)) (sym (even n (suc m) e))),
)

both : (n : ℕ) → IsLit (lit_of n) → (code_of (lit_of n) ≡ n) × (flip n ≡ code_of (neg_ℤ (lit_of n)))
both n i = elim (parity n) [ inl e ↦ code_even n (n / 2) e i | inr e ↦ code_odd n (n / 2) e i ]

-- the code of a code's literal
pub code_lit : (n : ℕ) → IsLit (lit_of n) → code_of (lit_of n) ≡ n
code_lit n i = (both n i).0

-- the code of the complement
pub flip_code : (n : ℕ) → IsLit (lit_of n) → flip n ≡ code_of (neg_ℤ (lit_of n))
flip_code n i = (both n i).1
