-- Literals by new and by old numbers of their variables.
use Rattle.std.proofs.Common.{◌≡◌, ℕ, zero, suc, ◌+◌, ◌-◌, ◌<◌, ◌≤◌, true, false, List, ℤ, pos, negsuc, neg_ℤ, length}
use Rattle.std.proofs.Common.{get_or, refl, ap, sym, subst, ◌∙◌, arith}
use Rattle.std.specs.Prelude.{unsigned_abs}
use Rattle.cnf_form.specs.Cnf.{IsLiteral}
use Rattle.lrat_check.specs.Sets.{has, is_false}
use Rattle.sat_trail.specs.Trail.{is_assigned}
use Rattle.sat_trail.proofs.Members.{or_none, or_both}
use Rattle.sat_cubes.specs.Cubes.{open_vars, new_number, signed_as, renumbered, old_literal}
use Rattle.sat_cubes.proofs.Others.{IsOther, StandsAt, other_at, stands_at}

pub assigned_apart : (q : List ℤ) (l : ℤ) → 0 < unsigned_abs l → is_assigned q (unsigned_abs l) ≡ false
    → (has q l ≡ false) × (is_false q l ≡ false)
assigned_apart q (pos zero) s e = absurd (omega (arith, s))
assigned_apart q (pos (suc n)) s e = or_none (has q (pos (suc n))) (is_false q (pos (suc n))) e
assigned_apart q (negsuc n) s e =
    let p = or_none (has q (pos (suc n))) (is_false q (pos (suc n))) e in (p.1, p.0)

pub apart_assigned : (q : List ℤ) (l : ℤ) → 0 < unsigned_abs l → has q l ≡ false → is_false q l ≡ false
    → is_assigned q (unsigned_abs l) ≡ false
apart_assigned q (pos zero) s e f = absurd (omega (arith, s))
apart_assigned q (pos (suc n)) s e f = or_both (has q (pos (suc n))) (is_false q (pos (suc n))) e f
apart_assigned q (negsuc n) s e f = or_both (has q (pos (suc n))) (is_false q (pos (suc n))) f e

pub abs_signed : (l : ℤ) (n : ℕ) → unsigned_abs (signed_as l n) ≡ n
abs_signed (pos k) n = refl
abs_signed (negsuc k) zero = refl
abs_signed (negsuc k) (suc n) = refl

pub abs_neg : (x : ℤ) → unsigned_abs (neg_ℤ x) ≡ unsigned_abs x
abs_neg (pos zero) = refl
abs_neg (pos (suc n)) = refl
abs_neg (negsuc n) = refl

signed_neg : (l : ℤ) (n : ℕ) → 0 < unsigned_abs l → signed_as (neg_ℤ l) n ≡ neg_ℤ (signed_as l n)
signed_neg (pos zero) n s = absurd (omega (arith, s))
signed_neg (pos (suc k)) n s = refl
signed_neg (negsuc k) zero s = refl
signed_neg (negsuc k) (suc n) s = refl

signed_self : (l : ℤ) → signed_as l (unsigned_abs l) ≡ l
signed_self (pos n) = refl
signed_self (negsuc n) = refl

signed_twice : (l : ℤ) (k n : ℕ) → 0 < k → signed_as (signed_as l k) n ≡ signed_as l n
signed_twice (pos a) k n s = refl
signed_twice (negsuc a) zero n s = absurd (omega (arith, s))
signed_twice (negsuc a) (suc k) n s = refl

pos_neg : (a b : ℕ) → 0 < a → pos a ≡ neg_ℤ (pos b) → ⊥
pos_neg a zero s e = (let f : a ≡ zero = cc in omega (arith, f, s))
pos_neg a (suc b) s e = cc

neg_pos : (a b : ℕ) → 0 < a → neg_ℤ (pos a) ≡ pos b → ⊥
neg_pos zero b s e = omega (arith, s)
neg_pos (suc a) b s e = cc

same_sign : (x y : ℤ) (a b : ℕ) → 0 < a → 0 < b → signed_as x a ≡ signed_as y b → unsigned_abs x ≡ unsigned_abs y
    → x ≡ y
same_sign (pos m) (pos k) a b s t e h = ap pos h
same_sign (pos m) (negsuc k) a b s t e h = absurd (pos_neg a b s e)
same_sign (negsuc m) (pos k) a b s t e h = absurd (neg_pos a b s e)
same_sign (negsuc m) (negsuc k) a b s t e h = (let f : m ≡ k = omega (arith, h) in ap negsuc f)

module _ (q : List ℤ) (vars : ℕ) where
  abbrev pub numbers : List ℕ
  numbers = open_vars q vars

  abbrev pub many : ℕ
  many = length numbers

  abbrev pub old : ℤ → ℤ
  old = old_literal numbers

  abbrev old_number : ℤ → ℕ
  old_number x = get_or numbers (unsigned_abs x - 1) 0

  old_place : (x : ℤ) → IsLiteral many x → IsOther (is_assigned q) vars (unsigned_abs x - 1) (old_number x)
  old_place x h = other_at (is_assigned q) vars (unsigned_abs x - 1) (omega (arith, h.0, h.1))

  abs_old : (x : ℤ) → unsigned_abs (old x) ≡ old_number x
  abs_old x = abs_signed x (old_number x)

  some_old : (x : ℤ) → IsLiteral many x → 0 < unsigned_abs (old x)
  some_old x h = subst (λ n. 0 < n) (sym (abs_old x)) (old_place x h).some

  -- an old literal isn't the cube's
  pub old_apart : (x : ℤ) → IsLiteral many x → (has q (old x) ≡ false) × (is_false q (old x) ≡ false)
  old_apart x h = assigned_apart q (old x) (some_old x h) (ap (is_assigned q) (abs_old x) ∙ (old_place x h).free)

  pub old_within : (x : ℤ) → IsLiteral many x → IsLiteral vars (old x)
  old_within x h = (some_old x h, subst (λ n. n ≤ vars) (sym (abs_old x)) (old_place x h).within)

  pub neg_within : (x : ℤ) → IsLiteral many x → IsLiteral many (neg_ℤ x)
  neg_within x h = (subst (λ n. 0 < n) (sym (abs_neg x)) h.0, subst (λ n. n ≤ many) (sym (abs_neg x)) h.1)

  pub old_neg : (x : ℤ) → IsLiteral many x → old (neg_ℤ x) ≡ neg_ℤ (old x)
  old_neg x h =
      ap (λ n. signed_as (neg_ℤ x) (get_or numbers (n - 1) 0)) (abs_neg x) ∙ signed_neg x (old_number x) h.0

  pub old_same : (x y : ℤ) → IsLiteral many x → IsLiteral many y → old x ≡ old y → x ≡ y
  old_same x y h k e =
      let n : old_number x ≡ old_number y = sym (abs_old x) ∙ ap unsigned_abs e ∙ abs_old y in
      let p = (old_place x h).place in
      let r = (old_place y k).place in
      let f : length (open_vars q (old_number x)) ≡ length (open_vars q (old_number y)) =
      ap (λ i. length (open_vars q i)) n in
      let g : unsigned_abs x ≡ unsigned_abs y = omega (arith, p, r, f, h.0, k.0) in
      same_sign x y (old_number x) (old_number y) (old_place x h).some (old_place y k).some e g

  new_place : (y : ℤ) → IsLiteral vars y → is_assigned q (unsigned_abs y) ≡ false
      → StandsAt (is_assigned q) vars (unsigned_abs y)
  new_place y h o = stands_at (is_assigned q) vars (unsigned_abs y) h.0 o h.1

  abs_new : (y : ℤ) → unsigned_abs (renumbered q y) ≡ new_number q (unsigned_abs y)
  abs_new y = abs_signed y (new_number q (unsigned_abs y))

  pub new_within : (y : ℤ) → IsLiteral vars y → is_assigned q (unsigned_abs y) ≡ false
      → IsLiteral many (renumbered q y)
  new_within y h o = (
    subst (λ n. 0 < n) (sym (abs_new y)) (new_place y h o).some,
    subst (λ n. n ≤ many) (sym (abs_new y)) (new_place y h o).within,
  )

  -- the old literal of the new one is the literal
  pub new_old : (y : ℤ) → IsLiteral vars y → is_assigned q (unsigned_abs y) ≡ false → old (renumbered q y) ≡ y
  new_old y h o =
      let k = new_number q (unsigned_abs y) in
      ap (λ n. signed_as (renumbered q y) (get_or numbers (n - 1) 0)) (abs_new y)
      ∙ signed_twice y k (get_or numbers (k - 1) 0) (new_place y h o).some
      ∙ ap (signed_as y) (new_place y h o).at ∙ signed_self y
