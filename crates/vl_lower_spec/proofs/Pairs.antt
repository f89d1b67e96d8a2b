-- Lists whose places belong together.
use Rattle.std.specs.Prelude.{◌≡◌, refl, ℕ, zero, suc, List, [], ◌∷◌, length, map}
use Rattle.std.specs.Prelude.{Some, is_none, slice_get, slice_index}
use Rattle.std.proofs.Common.{ap, sym, ◌∙◌, subst, true≢false}
use Rattle.std.proofs.lemmas.Option.{same_Some}
use Rattle.vl_lower_spec.specs.Sources.{AreEach}

module _ {A B : Type 0} (R : A → B → Type 0) where
  pub first_of : (xs : List A) (ys : List B) → AreEach R xs ys → (i : ℕ) (y : B) → slice_get ys i ≡ Some y
      → (x : A) × (slice_get xs i ≡ Some x) × R x y
  first_of [] [] h i y e = absurd (true≢false (ap is_none e))
  first_of [] (z ∷ ys) h i y e = absurd h
  first_of (x ∷ xs) [] h i y e = absurd h
  first_of (x ∷ xs) (z ∷ ys) h zero y e = (x, refl, subst (R x) (same_Some z y e) h.0)
  first_of (x ∷ xs) (z ∷ ys) h (suc i) y e = first_of xs ys h.1 i y e

  pub second_of : (xs : List A) (ys : List B) → AreEach R xs ys → (i : ℕ) (x : A) → slice_get xs i ≡ Some x
      → (y : B) × (slice_get ys i ≡ Some y) × R x y
  second_of [] [] h i x e = absurd (true≢false (ap is_none e))
  second_of [] (z ∷ ys) h i x e = absurd h
  second_of (w ∷ xs) [] h i x e = absurd h
  second_of (w ∷ xs) (z ∷ ys) h zero x e = (z, refl, subst (λ q. R q z) (same_Some w x e) h.0)
  second_of (w ∷ xs) (z ∷ ys) h (suc i) x e = second_of xs ys h.1 i x e

  pub as_many : (xs : List A) (ys : List B) → AreEach R xs ys → length ys ≡ length xs
  as_many [] [] h = refl
  as_many [] (z ∷ ys) h = absurd h
  as_many (w ∷ xs) [] h = absurd h
  as_many (w ∷ xs) (z ∷ ys) h = ap suc (as_many xs ys h.1)

  -- a function that is the same for each of the second
  pub same_map : {C : Type 0} (f g : B → C) → ((x : A) (y : B) → R x y → f y ≡ g y) → (xs : List A) (ys : List B)
      → AreEach R xs ys → map f ys ≡ map g ys
  same_map f g h [] [] r = refl
  same_map f g h [] (z ∷ ys) r = absurd r
  same_map f g h (w ∷ xs) [] r = absurd r
  same_map f g h (w ∷ xs) (z ∷ ys) r = λ i. h w z r.0 i ∷ same_map f g h xs ys r.1 i

pub map_at : {A B : Type 0} (f g : A → B) (xs : List A) → map f xs ≡ map g xs → (i : ℕ) (x : A)
    → slice_get xs i ≡ Some x → f x ≡ g x
map_at f g [] h i x e = absurd (true≢false (ap is_none e))
map_at f g (y ∷ ys) h zero x e =
    let same = same_Some y x e in
    sym (ap f same) ∙ same_Some (f y) (g y) (ap (λ zs. slice_get zs 0) h) ∙ ap g same
map_at f g (y ∷ ys) h (suc i) x e = map_at f g ys (behind h) i x e
  where
    behind : map f (y ∷ ys) ≡ map g (y ∷ ys) → map f ys ≡ map g ys
    behind h = ap tail h
      where
        tail : {C : Type 0} → List C → List C
        tail [] = []
        tail (z ∷ zs) = zs

pub index_map : {A : Type 0} (f : A → ℕ) (xs : List A) (i : ℕ) (x : A) → slice_get xs i ≡ Some x
    → slice_index (map f xs) i ≡ f x
index_map f [] i x e = absurd (true≢false (ap is_none e))
index_map f (y ∷ ys) zero x e = ap f (same_Some y x e)
index_map f (y ∷ ys) (suc i) x e = index_map f ys i x e
