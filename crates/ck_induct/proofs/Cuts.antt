-- The first maps of a list, and those from a place on.
use Rattle.std.specs.Prelude.{◌≡◌, refl, ℕ, zero, suc, ◌+◌, ◌-◌, ◌<◌, ◌≤◌, List, [], ◌∷◌, length, take, drop}
use Rattle.std.specs.Prelude.{slice_index_or}
use Rattle.std.proofs.Common.{ap, ◌∙◌, arith}
use Rattle.vl_mean.specs.Runs.{Each, First, FollowedBy, Neighbours, Rest}

pub each_taken : {A : Type 0} (P : A → Type 0) (n : ℕ) (xs : List A) → Each P xs → Each P (take n xs)
each_taken P zero xs own = tt
each_taken P (suc n) [] own = tt
each_taken P (suc n) (x ∷ xs) own = (own.0, each_taken P n xs own.1)

pub each_left : {A : Type 0} (P : A → Type 0) (n : ℕ) (xs : List A) → Each P xs → Each P (drop n xs)
each_left P zero xs own = own
each_left P (suc n) [] own = tt
each_left P (suc n) (x ∷ xs) own = each_left P n xs own.1

-- behind the first one all are of the rest
pub rest_left : {A : Type 0} (P : A → Type 0) (n : ℕ) (xs : List A) → 1 ≤ n → Rest P xs → Each P (drop n xs)
rest_left P zero xs some own = absurd (omega (arith, some))
rest_left P (suc n) [] some own = tt
rest_left P (suc n) (x ∷ xs) some own = each_left P n xs own

pub first_taken : {A : Type 0} (P : A → Type 0) (n : ℕ) (xs : List A) → First P xs → First P (take n xs)
first_taken P zero xs own = tt
first_taken P (suc n) [] own = tt
first_taken P (suc n) (x ∷ xs) own = own

pub rest_taken : {A : Type 0} (P : A → Type 0) (n : ℕ) (xs : List A) → Rest P xs → Rest P (take n xs)
rest_taken P zero xs own = tt
rest_taken P (suc n) [] own = tt
rest_taken P (suc n) (x ∷ xs) own = each_taken P n xs own

followed_taken : {A : Type 0} (R : A → A → Type 0) (x : A) (n : ℕ) (xs : List A) → FollowedBy R x xs
    → FollowedBy R x (take n xs)
followed_taken R x zero xs own = tt
followed_taken R x (suc n) [] own = tt
followed_taken R x (suc n) (y ∷ ys) own = (own.0, followed_taken R y n ys own.1)

pub neighbours_taken : {A : Type 0} (R : A → A → Type 0) (n : ℕ) (xs : List A) → Neighbours R xs
    → Neighbours R (take n xs)
neighbours_taken R zero xs own = tt
neighbours_taken R (suc n) [] own = tt
neighbours_taken R (suc n) (x ∷ xs) own = followed_taken R x n xs own

followed_left : {A : Type 0} (R : A → A → Type 0) (x : A) (n : ℕ) (xs : List A) → FollowedBy R x xs
    → Neighbours R (drop n xs)
followed_left R x n [] own = none n
  where
    none : (n : ℕ) → Neighbours R (drop n [])
    none zero = tt
    none (suc n) = tt
followed_left R x zero (y ∷ ys) own = own.1
followed_left R x (suc n) (y ∷ ys) own = followed_left R y n ys own.1

pub neighbours_left : {A : Type 0} (R : A → A → Type 0) (n : ℕ) (xs : List A) → Neighbours R xs
    → Neighbours R (drop n xs)
neighbours_left R zero xs own = own
neighbours_left R (suc n) [] own = tt
neighbours_left R (suc n) (x ∷ xs) own = followed_left R x n xs own

-- ---- places and lengths

pub taken_at : {A : Type 0} (d : A) (n i : ℕ) (xs : List A) → i < n
    → slice_index_or (take n xs) i d ≡ slice_index_or xs i d
taken_at d zero i xs below = absurd (omega (arith, below))
taken_at d (suc n) i [] below = refl
taken_at d (suc n) zero (x ∷ xs) below = refl
taken_at d (suc n) (suc i) (x ∷ xs) below = taken_at d n i xs (omega (arith, below))

pub left_at : {A : Type 0} (d : A) (n i : ℕ) (xs : List A)
    → slice_index_or (drop n xs) i d ≡ slice_index_or xs (n + i) d
left_at d zero i xs = let none : i ≡ 0 + i = omega arith in ap (λ k. slice_index_or xs k d) none
left_at d (suc n) i [] = refl
left_at d (suc n) i (x ∷ xs) =
    let one : suc (n + i) ≡ suc n + i = omega arith in
    left_at d n i xs ∙ ap (λ k. slice_index_or (x ∷ xs) k d) one

pub taken_long : {A : Type 0} (n : ℕ) (xs : List A) → n ≤ length xs → length (take n xs) ≡ n
taken_long zero xs few = refl
taken_long (suc n) [] few = absurd (omega (arith, few))
taken_long (suc n) (x ∷ xs) few = let rest = taken_long n xs (omega (arith, few)) in omega (arith, rest)

pub left_long : {A : Type 0} (n : ℕ) (xs : List A) → length (drop n xs) + n ≡ length xs + (n - length xs)
left_long zero xs = omega arith
left_long (suc n) [] = omega arith
left_long (suc n) (x ∷ xs) = let rest = left_long n xs in omega (arith, rest)
