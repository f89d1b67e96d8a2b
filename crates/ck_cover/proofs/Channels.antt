-- What is known of each channel is known of the one at a place.
use Rattle.std.proofs.Common.{◌≡◌, ℕ, zero, suc, List, [], ◌∷◌, Some, slice_get, subst}
use Rattle.std.specs.List.{AllByRecursion}

pub at_place : {X : Type 0} (P : X → Type 0) (xs : List X) (i : ℕ) (x : X) → slice_get xs i ≡ Some x
    → AllByRecursion P xs → P x
at_place P [] i x here all = absurd (let f : ⊥ = cc in f)
at_place P (y ∷ ys) zero x here all = let e : y ≡ x = cc in subst P e all.0
at_place P (y ∷ ys) (suc i) x here all = at_place P ys i x here all.1
