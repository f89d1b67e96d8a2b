-- Items of lists, counted rows, and what stands behind other things.
use Rattle.std.specs.Prelude.{◌≡◌, refl, ℕ, zero, suc, ◌+◌, ◌<◌, Bool, true, false, nat_lt}
use Rattle.std.specs.Prelude.{List, [], ◌∷◌, ◌++◌, length, map, take, drop}
use Rattle.std.specs.Prelude.{Some, slice_get, slice_index, slice_index_or}
use Rattle.std.specs.List.{AllByRecursion}
use Rattle.std.proofs.Common.{ap, sym, ◌∙◌, arith, subst}
use Rattle.std.proofs.lemmas.Bool.Decides.{nat_tests}
use Rattle.std.proofs.lemmas.List.{length_push, get_or_append_left, get_or_push, get_or-append-add}
use Rattle.bm_induct.specs.Stages.{counted}

-- ---- an item that was read

pub get_read : {X : Type 0} (xs : List X) (i : ℕ) (x d : X) → i < length xs → x ≡ slice_index_or xs i d
    → slice_get xs i ≡ Some x
get_read [] i x d below is = absurd (omega arith)
get_read (y ∷ ys) zero x d below is = ap Some (sym is)
get_read (y ∷ ys) (suc i) x d below is = get_read ys i x d (omega arith) is

pub at_place : {X : Type 0} (items own : List X) (i : ℕ) (x d : X) → items ≡ own → i < length items
    → x ≡ slice_index_or items i d → slice_get own i ≡ Some x
at_place items own i x d same below is = ap (λ xs. slice_get xs i) (sym same) ∙ get_read items i x d below is

pub get_within : {X : Type 0} (xs : List X) (i : ℕ) (x : X) → slice_get xs i ≡ Some x → i < length xs
get_within {X} [] i x e = absurd (ne e)
  where
    ne : slice_get {X = X} [] i ≡ Some x → ⊥
    ne e = cc
get_within (y ∷ ys) zero x e = omega arith
get_within (y ∷ ys) (suc i) x e = let h = get_within ys i x e in omega arith

pub all_in : {X : Type 0} (P : X → Type 0) (xs : List X) (i : ℕ) (x : X) → AllByRecursion P xs
    → slice_get xs i ≡ Some x → P x
all_in P [] i x h e = cc
all_in P (y ∷ ys) zero x h e = let p : y ≡ x = cc in subst P p h.0
all_in P (y ∷ ys) (suc i) x h e = all_in P ys i x h.1 e

pub index_mapped : {X : Type 0} (f : X → ℕ) (xs : List X) (i : ℕ) (x : X) → slice_get xs i ≡ Some x
    → slice_index (map f xs) i ≡ f x
index_mapped f [] i x e = cc
index_mapped f (y ∷ ys) zero x e = let p : y ≡ x = cc in ap f p
index_mapped f (y ∷ ys) (suc i) x e = index_mapped f ys i x e

-- one more of the first items, and one less of those that are left
pub take_next : {X : Type 0} (xs : List X) (i : ℕ) (x : X) → slice_get xs i ≡ Some x
    → take (suc i) xs ≡ take i xs ++ x ∷ []
take_next [] i x e = cc
take_next (y ∷ ys) zero x e = let p : y ≡ x = cc in ap (λ z. z ∷ []) p
take_next (y ∷ ys) (suc i) x e = ap (λ us. y ∷ us) (take_next ys i x e)

pub take_long : {X : Type 0} (xs : List X) (i : ℕ) (x : X) → slice_get xs i ≡ Some x → length (take i xs) ≡ i
take_long [] i x e = cc
take_long (y ∷ ys) zero x e = refl
take_long (y ∷ ys) (suc i) x e = let h = take_long ys i x e in omega (arith, h)

pub drop_next : {X : Type 0} (xs : List X) (i : ℕ) (x : X) → slice_get xs i ≡ Some x
    → drop i xs ≡ x ∷ drop (suc i) xs
drop_next [] i x e = cc
drop_next (y ∷ ys) zero x e = let p : y ≡ x = cc in ap (λ z. z ∷ ys) p
drop_next (y ∷ ys) (suc i) x e = drop_next ys i x e

-- ---- numbers in two lists

pub behind : (xs ys : List ℕ) (more a : ℕ) → length xs ≡ more → slice_index (xs ++ ys) (a + more) ≡ slice_index ys a
behind xs ys more a long =
    let e : a + more ≡ length xs + a = omega (arith, long) in
    ap (slice_index (xs ++ ys)) e ∙ get_or-append-add xs ys a 0

pub before : (xs ys : List ℕ) (i : ℕ) → i < length xs → slice_index (xs ++ ys) i ≡ slice_index xs i
before xs ys i below = get_or_append_left xs ys 0 i below

-- ---- counted rows

pub length-counted : {A : Type 0} (f : ℕ → A) (k : ℕ) → length (counted f k) ≡ k
length-counted f zero = refl
length-counted f (suc k) = omega (arith, length-counted f k, length_push (counted f k) (f k))

pub counted_at : (f : ℕ → ℕ) (k i : ℕ) → i < k → slice_index (counted f k) i ≡ f i
counted_at f zero i h = absurd (omega (arith, h))
counted_at f (suc k) i h = by (nat_lt i k) refl (counted_at f k i)
  where
    by : (b : Bool) → nat_lt i k ≡ b → (i < k → slice_index (counted f k) i ≡ f i)
        → slice_index (counted f k ++ f k ∷ []) i ≡ f i
    by true e earlier =
        let less : i < k = grind (arith, nat_tests, e) in
        before (counted f k) (f k ∷ []) i (omega (arith, less, length-counted f k)) ∙ earlier less
    by false e earlier =
        let same : i ≡ k = grind (arith, nat_tests, e, h) in
        get_or_push (counted f k) (f k) 0 i (omega (arith, same, length-counted f k)) ∙ ap f (sym same)
