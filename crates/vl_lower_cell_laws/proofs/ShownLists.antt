-- What holds of each element of a list by its places, and elements that are there once.
use Rattle.std.specs.Prelude.{◌≡◌, refl, ℕ, zero, suc, ◌==◌, List, [], ◌∷◌, ◌++◌, Bool, false, Some, is_none}
use Rattle.std.specs.Prelude.{slice_get, slice_index}
use Rattle.std.specs.List.{AllByRecursion, IsDistinct}
use Rattle.std.proofs.Common.{ap, arith, true≢false}
use Rattle.std.proofs.lemmas.Option.{same_Some}
use Rattle.std.proofs.lemmas.Bool.Decides.{nat_tests}
use Rattle.vl_flow_spec.proofs.Bools.{none_of}

pub all_of_places : {A : Type 0} (P : A → Type 0) (xs : List A)
    → ((j : ℕ) (x : A) → slice_get xs j ≡ Some x → P x) → AllByRecursion P xs
all_of_places P [] h = tt
all_of_places P (x ∷ xs) h = (h zero x refl, all_of_places P xs (λ j y e. h (suc j) y e))

-- the same number stands at one place
pub numbers_once : (xs : List ℕ)
    → ((j k n : ℕ) → slice_get xs j ≡ Some n → slice_get xs k ≡ Some n → j ≡ k) → IsDistinct (λ (a b : ℕ). a == b) xs
unfolding IsDistinct
numbers_once [] h = tt
numbers_once (x ∷ xs) h = (
  all_of_places (λ y. (x == y) ≡ false) xs (λ k y e.
      none_of (x == y) (λ t.
      let same : x ≡ y = grind (arith, nat_tests, t) in
      let none : zero ≡ suc k = h zero (suc k) y (ap Some same) e in
      absurd (omega (arith, none)))),
  numbers_once xs (λ j k n e f. let more : suc j ≡ suc k = h (suc j) (suc k) n e f in omega (arith, more)),
)

-- one list behind another that has nothing in common with it
pub distinct_both : {A : Type 0} (same : A → A → Bool) (xs ys : List A) → IsDistinct same xs → IsDistinct same ys
    → ((i j : ℕ) (x y : A) → slice_get xs i ≡ Some x → slice_get ys j ≡ Some y → same x y ≡ false)
    → IsDistinct same (xs ++ ys)
unfolding IsDistinct
distinct_both same [] ys h g f = g
distinct_both same (x ∷ xs) ys h g f = (
  all_both (λ y. same x y ≡ false) xs ys h.0 (all_of_places (λ y. same x y ≡ false) ys (λ j y e. f zero j x y refl e)),
  distinct_both same xs ys h.1 g (λ i j z y d e. f (suc i) j z y d e),
)
  where
    all_both : {B : Type 0} (P : B → Type 0) (zs ws : List B) → AllByRecursion P zs → AllByRecursion P ws
        → AllByRecursion P (zs ++ ws)
    all_both P [] ws a b = b
    all_both P (z ∷ zs) ws a b = (a.0, all_both P zs ws a.1 b)

pub index_is : (xs : List ℕ) (i x : ℕ) → slice_get xs i ≡ Some x → slice_index xs i ≡ x
index_is [] i x e = absurd (true≢false (ap is_none e))
index_is (y ∷ ys) zero x e = same_Some y x e
index_is (y ∷ ys) (suc i) x e = index_is ys i x e
