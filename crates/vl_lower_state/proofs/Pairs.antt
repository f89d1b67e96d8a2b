-- Lists in pairs, one behind another.
use Rattle.std.specs.Prelude.{List, [], ◌∷◌, ◌++◌}
use Rattle.vl_lower_spec.specs.Sources.{AreEach}

module _ {A B : Type 0} (R : A → B → Type 0) where
  pub pairs_both : (xs xs2 : List A) (ys ys2 : List B) → AreEach R xs ys → AreEach R xs2 ys2
      → AreEach R (xs ++ xs2) (ys ++ ys2)
  pairs_both [] xs2 [] ys2 h g = g
  pairs_both [] xs2 (y ∷ ys) ys2 h g = absurd h
  pairs_both (x ∷ xs) xs2 [] ys2 h g = absurd h
  pairs_both (x ∷ xs) xs2 (y ∷ ys) ys2 h g = (h.0, pairs_both xs xs2 ys ys2 h.1 g)
