-- The next element of a list that is gone through.
use Rattle.std.proofs.Common.{◌≡◌, ℕ, ◌+◌, ◌<◌, List, ◌∷◌, ◌++◌, length, drop, take, get_or}
use Rattle.std.proofs.Common.{sym, ◌∙◌, ap}
use Rattle.std.proofs.lemmas.List.{drop_more, take-append-drop}

module _ {X : Type 0} (xs : List X) (i : ℕ) (x d : X) (h : i < length xs) (e : x ≡ get_or xs i d) where
  pub next_is : drop i xs ≡ x ∷ drop (i + 1) xs
  next_is = drop_more xs i d h ∙ ap (λ y. y ∷ drop (i + 1) xs) (sym e)

  pub split_here : xs ≡ take i xs ++ x ∷ drop (i + 1) xs
  split_here = sym (take-append-drop i xs) ∙ ap (λ rest. take i xs ++ rest) next_is
