-- What is older than a decision of a trail.
use Rattle.std.proofs.Common.{◌≡◌, ℕ, true, ◌||◌, [], ◌∷◌, Option, Some, None, refl, sym, subst}
use Rattle.std.proofs.Common.{◌∙◌}
use Rattle.std.proofs.Common.{◌⊎◌, inl, inr}
use Rattle.std.proofs.lemmas.Bool.{false≢true}
use Rattle.sat_trail.specs.Trail.{Entries, decides, decided, below_at, below}
use Rattle.sat_propagate.specs.Laws.{IsOlder}

below_one : (reason : Option ℕ) (t : Entries) → (decided t ≡ true → IsOlder t (below t))
    → (decides reason || decided t) ≡ true
    → ((decides reason ≡ true) × (below_at reason t (below t) ≡ t)) ⊎ IsOlder t (below_at reason t (below t))
below_one None t f d = inl (refl, refl)
below_one (Some place) t f d = inr (f d)

pub older_below : (t : Entries) → decided t ≡ true → IsOlder t (below t)
older_below [] d = absurd (false≢true d)
older_below (e ∷ t) d = below_one e.reason t (older_below t) d

pub older_on : (t u v : Entries) → IsOlder t u → IsOlder u v → IsOlder t v
older_on [] u v o p = absurd o
older_on (e ∷ t) u v o p = elim o [
  | inl q ↦ inr (subst (λ z. IsOlder z v) q.1 p)
  | inr q ↦ inr (older_on t u v q p)
]

split_at : (reason : Option ℕ) (t u : Entries) → (IsOlder t u → (u ≡ below t) ⊎ IsOlder (below t) u)
    → ((decides reason ≡ true) × (u ≡ t)) ⊎ IsOlder t u
    → (u ≡ below_at reason t (below t)) ⊎ IsOlder (below_at reason t (below t)) u
split_at None t u f o = elim o [ inl q ↦ inl q.1 | inr q ↦ inr q ]
split_at (Some place) t u f o = elim o [ inl q ↦ absurd (false≢true q.0) | inr q ↦ f q ]

-- it is below the newest decision, or older than a decision there
split : (t u : Entries) → IsOlder t u → (u ≡ below t) ⊎ IsOlder (below t) u
split [] u o = absurd o
split (e ∷ t) u o = split_at e.reason t u (split t u) o

-- so it is on each trail with the same below its newest decision
pub older_through : (t mid cut : Entries) → decided t ≡ true → below mid ≡ below t → IsOlder mid cut → IsOlder t cut
older_through t mid cut d b o = elim (split mid cut o) [
  | inl q ↦ subst (IsOlder t) (sym (q ∙ b)) (older_below t d)
  | inr q ↦ older_on t (below t) cut (older_below t d) (subst (λ z. IsOlder z cut) b q)
]
