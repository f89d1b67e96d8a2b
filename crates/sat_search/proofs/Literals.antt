-- Literals that name variables, and what a set says of a variable.
use Rattle.std.proofs.Common.{◌≡◌, ℕ, zero, suc, ◌+◌, ◌^◌, ◌<◌, ◌≤◌, true, List, []}
use Rattle.std.proofs.Common.{◌∷◌, ℤ, pos, negsuc, neg_ℤ}
use Rattle.std.proofs.Common.{refl, ap, sym, subst, inl, inr, arith}
use Rattle.std.specs.Prelude.{unsigned_abs}
use Rattle.std.specs.Ordering.{int_eq}
use Rattle.std.proofs.lemmas.Bool.{false≢true}
use Rattle.cnf_form.specs.Cnf.{IsLiteral, AreLiterals, AreClauses}
use Rattle.lrat_check.specs.Sets.{has, IsLit, AreLits}
use Rattle.sat_propagate.specs.Propagation.{AllLits}
use Rattle.sat_trail.proofs.Members.{same_is, or_cases, has_head, has_tail}

pub literal_at : (vars : ℕ) (c : List ℤ) (x : ℤ) → AreLiterals vars c → has c x ≡ true → IsLiteral vars x
literal_at vars [] x k h = absurd (false≢true h)
literal_at vars (l ∷ ls) x k h = elim (or_cases (int_eq x l) (has ls x) h) [
  | inl e ↦ subst (IsLiteral vars) (sym (same_is x l e)) k.0
  | inr e ↦ literal_at vars ls x k.1 e
]

pub literals_from : (vars : ℕ) (c : List ℤ) → ((x : ℤ) → has c x ≡ true → IsLiteral vars x) → AreLiterals vars c
literals_from vars [] h = tt
literals_from vars (l ∷ ls) h = (h l (has_head l ls), literals_from vars ls (λ x k. h x (has_tail x l ls k)))

pub abs_neg : (x : ℤ) → unsigned_abs (neg_ℤ x) ≡ unsigned_abs x
abs_neg (pos zero) = refl
abs_neg (pos (suc n)) = refl
abs_neg (negsuc n) = refl

pub neg_literal : (vars : ℕ) (x : ℤ) → IsLiteral vars (neg_ℤ x) → IsLiteral vars x
neg_literal vars x h =
    let P : ℕ → Type 0 = λ n. (0 < n) × (n ≤ vars) in
    subst P (abs_neg x) h

pub lit_of : (vars : ℕ) (x : ℤ) → vars < 2 ^ 63 → IsLiteral vars x → IsLit x
lit_of vars x v h = (h.0, omega (arith, h.1))

pub lits_of : (vars : ℕ) (c : List ℤ) → vars < 2 ^ 63 → AreLiterals vars c → AreLits c
lits_of vars [] v h = tt
lits_of vars (l ∷ ls) v h = (lit_of vars l v h.0, lits_of vars ls v h.1)

-- the literals of a formula's clauses have complements
pub all_lits : (vars : ℕ) (cs : List (List ℤ)) → vars < 2 ^ 63 → AreClauses vars cs → AllLits cs
all_lits vars [] v h = tt
all_lits vars (c ∷ cs) v h = (lits_of vars c v h.0, all_lits vars cs v h.1)

pub next : (n : ℕ) → n + 1 ≡ suc n
next n = omega arith

pub neg_next : (n : ℕ) → neg_ℤ (pos (n + 1)) ≡ negsuc n
neg_next n = ap (λ m. neg_ℤ (pos m)) (next n)

-- what holds of each variable and its complement holds of each literal
pub by_variable : (vars : ℕ) (P : ℤ → Type 0) → ((n : ℕ) → n < vars → P (pos (n + 1)))
    → ((n : ℕ) → n < vars → P (negsuc n)) → (x : ℤ) → IsLiteral vars x → P x
by_variable vars P p q (pos zero) h = absurd (omega (arith, h.0))
by_variable vars P p q (pos (suc n)) h =
    let Q : ℕ → Type 0 = λ m. P (pos m) in
    subst Q (next n) (p n (omega (arith, h.1)))
by_variable vars P p q (negsuc n) h = q n (omega (arith, h.1))
