-- Lists behind one another.
use Rattle.std.specs.Prelude.{◌≡◌, refl, ℕ, zero, suc, ◌+◌, List, [], ◌∷◌, ◌++◌, length, map, Some, is_none, slice_get}
use Rattle.std.proofs.Common.{ap, ◌∙◌, arith, true≢false}
use Rattle.std.proofs.lemmas.Option.{same_Some}
use Rattle.vl_mean.specs.Runs.{Each}
use Rattle.vl_lower_cell_laws.specs.Keeps.{Kept}
use Rattle.vl_lower_cell_laws.specs.Listing.{named_registers}

pub within : {A : Type 0} (xs ys : List A) (j : ℕ) (x : A) → slice_get xs j ≡ Some x → slice_get (xs ++ ys) j ≡ Some x
within [] ys j x e = absurd (true≢false (ap is_none e))
within (y ∷ xs) ys zero x e = e
within (y ∷ xs) ys (suc j) x e = within xs ys j x e

pub further : {A : Type 0} (xs ys : List A) (j : ℕ) → slice_get (xs ++ ys) (length xs + j) ≡ slice_get ys j
further [] ys j = let same : 0 + j ≡ j = omega arith in ap (slice_get ys) same
further (x ∷ xs) ys j =
    let same : suc (length xs) + j ≡ suc (length xs + j) = omega arith in
    ap (slice_get (x ∷ xs ++ ys)) same ∙ further xs ys j

pub map_get : {A B : Type 0} (f : A → B) (xs : List A) (i : ℕ) (x : A) → slice_get xs i ≡ Some x
    → slice_get (map f xs) i ≡ Some (f x)
map_get f [] i x e = absurd (true≢false (ap is_none e))
map_get f (y ∷ ys) zero x e = ap (λ z. Some (f z)) (same_Some y x e)
map_get f (y ∷ ys) (suc i) x e = map_get f ys i x e

pub each_both : {A : Type 0} (P : A → Type 0) (xs ys : List A) → Each P xs → Each P ys → Each P (xs ++ ys)
each_both P [] ys h g = g
each_both P (x ∷ xs) ys h g = (h.0, each_both P xs ys h.1 g)

-- each of a list is in another one
abbrev pub AreIn : {A : Type 0} → List A → List A → Type 0
AreIn xs whole = (i : ℕ) (x : _) → slice_get xs i ≡ Some x → (j : ℕ) × (slice_get whole j ≡ Some x)

pub front_in : {A : Type 0} (xs ys whole : List A) → AreIn (xs ++ ys) whole → AreIn xs whole
front_in xs ys whole h i x e = h i x (within xs ys i x e)

pub back_in : {A : Type 0} (xs ys whole : List A) → AreIn (xs ++ ys) whole → AreIn ys whole
back_in xs ys whole h i x e = h (length xs + i) x (further xs ys i ∙ e)

-- ---- registers under one place

pub named_many : (at : ℕ) (xs : List Kept) → length (named_registers at xs) ≡ length xs
named_many at [] = refl
named_many at (x ∷ xs) = ap suc (named_many at xs)

pub named_at : (at : ℕ) (xs : List Kept) (i : ℕ) (x : Kept) → slice_get xs i ≡ Some x
    → slice_get (named_registers at xs) i ≡ Some (x, at)
named_at at [] i x e = absurd (true≢false (ap is_none e))
named_at at (y ∷ ys) zero x e = ap (λ z. Some (z, at)) (same_Some y x e)
named_at at (y ∷ ys) (suc i) x e = named_at at ys i x e
