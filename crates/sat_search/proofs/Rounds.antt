-- What falls with each round: a variable gets its value, or one clause fewer is left to be learnt.
use Rattle.std.proofs.Common.{◌≡◌, ℕ, zero, suc, ◌+◌, ◌*◌, ◌-◌, ◌^◌, ◌<◌, ◌≤◌, ◌⊎◌, Bool, true, false, cond, List}
use Rattle.std.proofs.Common.{◌∷◌, ℤ, pos, negsuc}
use Rattle.std.proofs.Common.{neg_ℤ, refl, ap, sym, subst, ◌∙◌, inl, inr, arith}
use Rattle.std.proofs.lemmas.Bool.{false≢true, cases_eq, or_from}
use Rattle.cnf_form.specs.Cnf.{IsLiteral}
use Rattle.lrat_check.specs.Sets.{has, is_false}
use Rattle.sat_trail.specs.declared.trail.Entry.{Entry}
use Rattle.sat_trail.specs.Trail.{Entries, lits, is_assigned}
use Rattle.sat_search.specs.Searching.{open_vars, rounds}
use Rattle.sat_trail.proofs.Members.{or_left, or_right, or_cases, has_head, has_tail}
use Rattle.sat_search.proofs.Literals.{by_variable, neg_next}

assigned_more : (set : List ℤ) (l : ℤ) (v : ℕ) → is_assigned set v ≡ true → is_assigned (l ∷ set) v ≡ true
assigned_more set l v h = elim (or_cases (has set (pos v)) (is_false set (pos v)) h) [
  | inl e ↦ or_left (has (l ∷ set) (pos v)) (is_false (l ∷ set) (pos v)) (has_tail (pos v) l set e)
  | inr e ↦ or_right (has (l ∷ set) (pos v)) (is_false (l ∷ set) (pos v)) (has_tail (neg_ℤ (pos v)) l set e)
]

less_at : (a b : Bool) → (a ≡ true → b ≡ true) → cond b 0 1 ≤ cond a 0 1
less_at true true h = omega arith
less_at true false h = absurd (false≢true (h refl))
less_at false true h = omega arith
less_at false false h = omega arith

falls_here : (a b : Bool) → a ≡ false → b ≡ true → cond b 0 1 < cond a 0 1
falls_here true b e f = absurd (false≢true (sym e))
falls_here false true e f = omega arith
falls_here false false e f = absurd (false≢true f)

open_fewer : (n : ℕ) (set : List ℤ) (l : ℤ) → open_vars n (l ∷ set) ≤ open_vars n set
open_fewer zero set l = omega arith
open_fewer (suc n) set l =
    let a = less_at (is_assigned set (n + 1)) (is_assigned (l ∷ set) (n + 1)) (assigned_more set l (n + 1)) in
    let b = open_fewer n set l in
    omega (arith, a, b)

at_most_one : (a : Bool) → cond a 0 1 ≤ 1
at_most_one true = omega arith
at_most_one false = omega arith

open_few : (n : ℕ) (set : List ℤ) → open_vars n set ≤ n
open_few zero set = omega arith
open_few (suc n) set = let a = at_most_one (is_assigned set (n + 1)) in let b = open_few n set in omega (arith, a, b)

falls_at : (n : ℕ) (set : List ℤ) (l : ℤ) (m : ℕ) → m < n → is_assigned set (m + 1) ≡ false
    → is_assigned (l ∷ set) (m + 1) ≡ true → open_vars n (l ∷ set) < open_vars n set
falls_at zero set l m h e f = absurd (omega arith)
falls_at (suc n) set l m h e f = elim (cases_eq m n) [
  | inl k ↦
      let P : ℕ → Type 0 = λ i. cond (is_assigned (l ∷ set) (i + 1)) 0 1 < cond (is_assigned set (i + 1)) 0 1 in
      let a = subst P k (falls_here (is_assigned set (m + 1)) (is_assigned (l ∷ set) (m + 1)) e f) in
      let b = open_fewer n set l in
      omega (arith, a, b)
  | inr k ↦
      let a = less_at (is_assigned set (n + 1)) (is_assigned (l ∷ set) (n + 1)) (assigned_more set l (n + 1)) in
      let b = falls_at n set l m (omega (arith, h, k)) e f in
      omega (arith, a, b)
]

-- a variable that gets its value is one fewer
open_falls : (vars : ℕ) (set : List ℤ) (l : ℤ) → IsLiteral vars l → has set l ≡ false → is_false set l ≡ false
    → open_vars vars (l ∷ set) < open_vars vars set
open_falls vars set =
    by_variable vars (λ l. has set l ≡ false → is_false set l ≡ false → open_vars vars (l ∷ set) < open_vars vars set)
    (λ n k h f. falls_at vars set (pos (n + 1)) n k
    (or_from (has set (pos (n + 1))) (is_false set (pos (n + 1))) h f)
    (or_left (has (pos (n + 1) ∷ set) (pos (n + 1))) (is_false (pos (n + 1) ∷ set) (pos (n + 1)))
    (has_head (pos (n + 1)) set)))
    (λ n k h f.
    let e : neg_ℤ (negsuc n) ≡ pos (n + 1) = (let q : suc n ≡ n + 1 = omega arith in ap pos q) in
    falls_at vars set (negsuc n) n k
    (or_from (has set (pos (n + 1))) (is_false set (pos (n + 1))) (ap (has set) (sym e) ∙ f)
    (ap (has set) (neg_next n) ∙ h))
    (or_right (has (negsuc n ∷ set) (pos (n + 1))) (is_false (negsuc n ∷ set) (pos (n + 1)))
    (ap (has (negsuc n ∷ set)) (neg_next n) ∙ has_head (negsuc n) set)))

pub value_falls : (vars left : ℕ) (e : Entry) (t whole : Entries) → whole ≡ e ∷ t → IsLiteral vars e.lit
    → has (lits t) e.lit ≡ false → is_false (lits t) e.lit ≡ false → rounds vars left whole < rounds vars left t
value_falls vars left e t whole w k h f =
    let a = open_falls vars (lits t) e.lit k h f in
    let P : Entries → Type 0 = λ z. rounds vars left z < rounds vars left t in
    let b : rounds vars left (e ∷ t) < rounds vars left t = omega (arith, a) in
    subst P (sym w) b

falls_by : (vars now more : ℕ) (t u : Entries) → rounds vars now t < rounds vars (now + 1 + more) u
falls_by vars now more t u = let a = open_few vars (lits t) in omega (arith, a)

pub rank_falls : (vars rest now : ℕ) (t u : Entries) → now < rest → rounds vars now t < rounds vars rest u
rank_falls vars rest now t u h =
    let e : rest ≡ now + 1 + (rest - (now + 1)) = omega (arith, h) in
    let P : ℕ → Type 0 = λ z. rounds vars now t < rounds vars z u in
    subst P (sym e) (falls_by vars now (rest - (now + 1)) t u)

-- one clause fewer is left to learn, whatever was dropped
pub new_falls : (left now a b : ℕ) → left ≡ now + 1 → (b ≡ a) ⊎ (b < 2 ^ 63) → now * 2 ^ 64 + b < left * 2 ^ 64 + a
new_falls left now a b e (inl h) = omega (arith, e, h)
new_falls left now a b e (inr h) = omega (arith, e, h)

-- one that was dropped comes back
pub old_falls : (left a b : ℕ) → b + 1 ≡ a → left * 2 ^ 64 + b < left * 2 ^ 64 + a
old_falls left a b e = omega (arith, e)
