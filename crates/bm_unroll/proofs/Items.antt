-- Items of lists, the first of them, and their sums.
use Rattle.std.specs.Prelude.{◌≡◌, refl, ℕ, zero, suc, ◌+◌, ◌<◌, ◌≤◌, List, [], ◌∷◌, ◌++◌, length, map, take, sum}
use Rattle.std.specs.Prelude.{Some, slice_get, slice_index, slice_index_or}
use Rattle.std.specs.List.{AllByRecursion}
use Rattle.std.proofs.Common.{ap, sym, ◌∙◌, arith, subst}
use Rattle.std.proofs.lemmas.List.Sums.{sum_by-cons}

-- an item that was read
pub get_read : {X : Type 0} (xs : List X) (i : ℕ) (x d : X) → i < length xs → x ≡ slice_index_or xs i d
    → slice_get xs i ≡ Some x
get_read [] i x d below is = absurd (omega arith)
get_read (y ∷ ys) zero x d below is = ap Some (sym is)
get_read (y ∷ ys) (suc i) x d below is = get_read ys i x d (omega arith) is

pub at_place : {X : Type 0} (items own : List X) (i : ℕ) (d : X) → items ≡ own → i < length items
    → slice_get own i ≡ Some (slice_index_or items i d)
at_place items own i d same below =
    ap (λ xs. slice_get xs i) (sym same) ∙ get_read items i (slice_index_or items i d) d below refl

pub at_read : {X : Type 0} (items own : List X) (i : ℕ) (x : X) → items ≡ own → i < length items
    → x ≡ slice_index_or items i x → slice_get own i ≡ Some x
at_read items own i x same below is =
    ap (λ xs. slice_get xs i) (sym same) ∙ get_read items i x x below is

pub get_mapped : {X Y : Type 0} (f : X → Y) (xs : List X) (i : ℕ) (x : X) → slice_get xs i ≡ Some x
    → slice_get (map f xs) i ≡ Some (f x)
get_mapped f [] i x e = cc
get_mapped f (y ∷ ys) zero x e = let p : y ≡ x = cc in ap (λ z. Some (f z)) p
get_mapped f (y ∷ ys) (suc i) x e = get_mapped f ys i x e

pub index_mapped : {X : Type 0} (f : X → ℕ) (xs : List X) (i : ℕ) (x : X) → slice_get xs i ≡ Some x
    → slice_index (map f xs) i ≡ f x
index_mapped f [] i x e = cc
index_mapped f (y ∷ ys) zero x e = let p : y ≡ x = cc in ap f p
index_mapped f (y ∷ ys) (suc i) x e = index_mapped f ys i x e

pub list_mapped : {X Y : Type 0} (f : X → List Y) (xs : List X) (i : ℕ) (x : X) → slice_get xs i ≡ Some x
    → slice_index_or (map f xs) i [] ≡ f x
list_mapped f [] i x e = cc
list_mapped f (y ∷ ys) zero x e = let p : y ≡ x = cc in ap f p
list_mapped f (y ∷ ys) (suc i) x e = list_mapped f ys i x e

-- an item that is there has a place in the list
pub get_within : {X : Type 0} (xs : List X) (i : ℕ) (x : X) → slice_get xs i ≡ Some x → i < length xs
get_within {X} [] i x e = absurd (ne e)
  where
    ne : slice_get {X = X} [] i ≡ Some x → ⊥
    ne e = cc
get_within (y ∷ ys) zero x e = omega arith
get_within (y ∷ ys) (suc i) x e = let h = get_within ys i x e in omega arith

-- one more of the first items
pub mapped_next : {X : Type 0} (f : X → ℕ) (xs : List X) (i : ℕ) (x : X) → slice_get xs i ≡ Some x
    → take (suc i) (map f xs) ≡ take i (map f xs) ++ f x ∷ []
mapped_next f [] i x e = cc
mapped_next f (y ∷ ys) zero x e = let p : y ≡ x = cc in ap (λ z. f z ∷ []) p
mapped_next f (y ∷ ys) (suc i) x e = ap (λ us. f y ∷ us) (mapped_next f ys i x e)

-- an item of which all have what all have
pub all_in : {X : Type 0} (P : X → Type 0) (xs : List X) (i : ℕ) (x : X) → AllByRecursion P xs
    → slice_get xs i ≡ Some x → P x
all_in P [] i x h e = cc
all_in P (y ∷ ys) zero x h e = let p : y ≡ x = cc in subst P p h.0
all_in P (y ∷ ys) (suc i) x h e = all_in P ys i x h.1 e

pub all_from : {X : Type 0} (P : X → Type 0) (d : X) (xs : List X)
    → ((i : ℕ) → i < length xs → P (slice_index_or xs i d)) → AllByRecursion P xs
all_from P d [] h = tt
all_from P d (x ∷ xs) h = (h 0 (omega arith), all_from P d xs (λ i below. h (suc i) (omega arith)))

pub all_at : {X : Type 0} (P : X → Type 0) (d : X) (xs : List X) (i : ℕ) → AllByRecursion P xs → i < length xs
    → P (slice_index_or xs i d)
all_at P d [] i h below = absurd (omega arith)
all_at P d (x ∷ xs) zero h below = h.0
all_at P d (x ∷ xs) (suc i) h below = all_at P d xs i h.1 (omega arith)

-- the sum of the first numbers
sum_cons : (u : ℕ) (us : List ℕ) → sum (u ∷ us) ≡ u + sum us
sum_cons u us = sum_by-cons (λ n. n) u us

pub sum_next : (us : List ℕ) (i : ℕ) → i < length us → sum (take (suc i) us) ≡ sum (take i us) + slice_index us i
sum_next [] i below = absurd (omega arith)
sum_next (u ∷ us) zero below = sum_cons u [] ∙ omega arith
sum_next (u ∷ us) (suc i) below =
    let more : sum (take (suc (suc i)) (u ∷ us)) ≡ u + sum (take (suc i) us) = sum_cons u (take (suc i) us) in
    let less : sum (take (suc i) (u ∷ us)) ≡ u + sum (take i us) = sum_cons u (take i us) in
    let here : slice_index (u ∷ us) (suc i) ≡ slice_index us i = refl in
    let rest = sum_next us i (omega arith) in
    omega (arith, more, less, here, rest)

pub sum_within : (us : List ℕ) (i : ℕ) → i < length us → sum (take i us) + slice_index us i ≤ sum us
sum_within [] i below = absurd (omega arith)
sum_within (u ∷ us) zero below =
    let none : sum (take zero (u ∷ us)) ≡ 0 = refl in
    let here : slice_index (u ∷ us) zero ≡ u = refl in
    omega (arith, none, here, sum_cons u us)
sum_within (u ∷ us) (suc i) below =
    let less : sum (take (suc i) (u ∷ us)) ≡ u + sum (take i us) = sum_cons u (take i us) in
    let here : slice_index (u ∷ us) (suc i) ≡ slice_index us i = refl in
    omega (arith, sum_within us i (omega arith), less, here, sum_cons u us)

pub sum_first : (us : List ℕ) (i : ℕ) → sum (take i us) ≤ sum us
sum_first us zero = let none : sum (take zero us) ≡ 0 = refl in omega (arith, none)
sum_first [] (suc i) = let none : sum (take {A = ℕ} (suc i) []) ≡ 0 = refl in omega (arith, none)
sum_first (u ∷ us) (suc i) =
    let less : sum (take (suc i) (u ∷ us)) ≡ u + sum (take i us) = sum_cons u (take i us) in
    omega (arith, sum_first us i, less, sum_cons u us)
