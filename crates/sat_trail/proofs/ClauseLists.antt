-- Two lists of clauses as one, by places.
use Rattle.std.proofs.Common.{◌≡◌, ℕ, zero, suc, ◌+◌, ◌-◌, ◌<◌, ◌≤◌, List, [], ◌∷◌, ◌++◌, ℤ, length, get_or}
use Rattle.std.proofs.Common.{ap, sym, ◌∙◌, inl, inr, arith, length-append}
use Rattle.std.proofs.lemmas.Bool.{cases_lt}
use Rattle.std.proofs.lemmas.List.{get_or_append_left}
use Rattle.sat_trail.specs.ClauseList.{TakenOut}

-- a place in the second list
pub right : (a b : List (List ℤ)) (d : List ℤ) (k : ℕ) → length a ≤ k → get_or (a ++ b) k d ≡ get_or b (k - length a) d
right [] b d k h = let e : k ≡ k - 0 = omega arith in ap (λ z. get_or b z d) e
right (x ∷ a) b d zero h = absurd (omega (arith, h))
right (x ∷ a) b d (suc k) h =
    let e : k - length a ≡ suc k - length (x ∷ a) = omega arith in
    right a b d k (omega (arith, h)) ∙ ap (λ z. get_or b z d) e

-- the clause that stands there, as it is read
pub read_left : (a b : List (List ℤ)) (k : ℕ) (c : List ℤ) → k < length a → c ≡ get_or a k c → c ≡ get_or (a ++ b) k c
read_left a b k c h e = e ∙ sym (get_or_append_left a b c k h)

pub read_right : (a b : List (List ℤ)) (k : ℕ) (c : List ℤ) → length a ≤ k → c ≡ get_or b (k - length a) c
    → c ≡ get_or (a ++ b) k c
read_right a b k c h e = e ∙ sym (right a b c k h)

-- a clause of the second list is taken out
pub taken_out : (a b c : List (List ℤ)) (place : ℕ) (clause : List ℤ) (old now : ℕ) → length a ≤ place
    → place - length a < old → old ≡ length b → now ≡ length c → now + 1 ≡ old
    → clause ≡ get_or b (place - length a) clause
    → ((d : List ℤ) → place - length a + 1 < old → get_or c (place - length a) d ≡ get_or b (old - 1) d)
    × ((k : ℕ) (d : List ℤ) → (k ≡ place - length a → ⊥) → k + 1 < old → get_or c k d ≡ get_or b k d)
    → TakenOut (a ++ b) (a ++ c) place clause
taken_out a b c place clause old now l w e f g is h =
    let x = length-append a b in
    let y = length-append a c in
    record {
      within = omega (arith, l, w, e, x);
      is = read_right a b place clause l is;
      many = omega (arith, e, f, g, x, y);
      by_place = (
        λ d m.
            let last : old - 1 ≡ length (a ++ b) - 1 - length a = omega (arith, e, x, w) in
            right a c d place l ∙ h.0 d (omega (arith, m, l, e, x)) ∙ ap (λ z. get_or b z d) last
            ∙ sym (right a b d (length (a ++ b) - 1) (omega (arith, m, l))),
        λ k d n m. elim (cases_lt k (length a)) [
          | inl q ↦ get_or_append_left a c d k q ∙ sym (get_or_append_left a b d k q)
          | inr q ↦
              right a c d k q
              ∙ h.1 (k - length a) d (λ z. n (omega (arith, z, q, l))) (omega (arith, m, q, e, x))
              ∙ sym (right a b d k q)
        ],
      );
    }
