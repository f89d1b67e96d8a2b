-- What stands at a place of a list to which something was added, or in which a place was written.
use Rattle.std.specs.Prelude.{◌≡◌, refl, ℕ, zero, suc, ◌<◌, List, [], ◌∷◌, ◌++◌}
use Rattle.std.specs.Prelude.{length, Some, is_none}
use Rattle.std.specs.Prelude.{slice_get, slice_set}
use Rattle.std.proofs.Common.{ap, arith, true≢false, ◌⊎◌, inl, inr}
use Rattle.std.proofs.lemmas.Option.{same_Some}

pub get_less : {A : Type 0} (xs : List A) (i : ℕ) (x : A) → slice_get xs i ≡ Some x → i < length xs
get_less [] i x e = absurd (true≢false (ap is_none e))
get_less (y ∷ ys) zero x e = omega arith
get_less (y ∷ ys) (suc i) x e = let less = get_less ys i x e in omega (arith, less)

pub get_some : {A : Type 0} (xs : List A) (i : ℕ) → i < length xs → (x : A) × (slice_get xs i ≡ Some x)
get_some [] i h = absurd (omega (arith, h))
get_some (y ∷ ys) zero h = (y, refl)
get_some (y ∷ ys) (suc i) h = let less : i < length ys = omega (arith, h) in get_some ys i less

pub get_front : {A : Type 0} (xs : List A) (x : A) (i : ℕ) (y : A) → slice_get xs i ≡ Some y
    → slice_get (xs ++ x ∷ []) i ≡ Some y
get_front [] x i y e = absurd (true≢false (ap is_none e))
get_front (z ∷ zs) x zero y e = e
get_front (z ∷ zs) x (suc i) y e = get_front zs x i y e

pub get_last : {A : Type 0} (xs : List A) (x : A) → slice_get (xs ++ x ∷ []) (length xs) ≡ Some x
get_last [] x = refl
get_last (z ∷ zs) x = get_last zs x

pub get_cases : {A : Type 0} (xs : List A) (x : A) (i : ℕ) (y : A) → slice_get (xs ++ x ∷ []) i ≡ Some y
    → (slice_get xs i ≡ Some y) ⊎ ((i ≡ length xs) × (x ≡ y))
get_cases [] x zero y e = inr (refl, same_Some x y e)
get_cases [] x (suc i) y e = absurd (true≢false (ap is_none e))
get_cases (z ∷ zs) x zero y e = inl e
get_cases (z ∷ zs) x (suc i) y e = by (get_cases zs x i y e)
  where
    by : (slice_get zs i ≡ Some y) ⊎ ((i ≡ length zs) × (x ≡ y))
        → (slice_get zs i ≡ Some y) ⊎ ((suc i ≡ suc (length zs)) × (x ≡ y))
    by (inl h) = inl h
    by (inr h) = inr (ap suc h.0, h.1)

pub get_set : {A : Type 0} (xs : List A) (i : ℕ) (x : A) → i < length xs → slice_get (slice_set xs i x) i ≡ Some x
get_set [] i x h = absurd (omega (arith, h))
get_set (y ∷ ys) zero x h = refl
get_set (y ∷ ys) (suc i) x h = let less : i < length ys = omega (arith, h) in get_set ys i x less

pub get_unset : {A : Type 0} (xs : List A) (i j : ℕ) (x : A) → (j ≡ i → ⊥)
    → slice_get (slice_set xs i x) j ≡ slice_get xs j
get_unset [] i j x h = refl
get_unset (y ∷ ys) zero zero x h = absurd (h refl)
get_unset (y ∷ ys) zero (suc j) x h = refl
get_unset (y ∷ ys) (suc i) zero x h = refl
get_unset (y ∷ ys) (suc i) (suc j) x h = get_unset ys i j x (λ e. h (ap suc e))

pub length_set : {A : Type 0} (xs : List A) (i : ℕ) (x : A) → length (slice_set xs i x) ≡ length xs
length_set [] i x = refl
length_set (y ∷ ys) zero x = refl
length_set (y ∷ ys) (suc i) x = ap suc (length_set ys i x)

pub length_more : {A : Type 0} (xs : List A) (x : A) → length (xs ++ x ∷ []) ≡ suc (length xs)
length_more [] x = refl
length_more (y ∷ ys) x = ap suc (length_more ys x)
