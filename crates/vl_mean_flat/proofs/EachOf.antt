-- What is asked of each element of lists.
use Rattle.std.specs.Prelude.{List, [], ◌∷◌, ◌++◌}
use Rattle.vl_mean.specs.Runs.{Each, FollowedBy, Neighbours, First, Rest}

pub each_map : {A : Type 0} {P Q : A → Type 0} → ((x : A) → P x → Q x) → (xs : List A) → Each P xs → Each Q xs
each_map f [] h = tt
each_map f (x ∷ xs) h = (f x h.0, each_map f xs h.1)

pub first_map : {A : Type 0} {P Q : A → Type 0} → ((x : A) → P x → Q x) → (xs : List A) → First P xs → First Q xs
first_map f [] h = tt
first_map f (x ∷ xs) h = f x h

pub rest_map : {A : Type 0} {P Q : A → Type 0} → ((x : A) → P x → Q x) → (xs : List A) → Rest P xs → Rest Q xs
rest_map f [] h = tt
rest_map f (x ∷ xs) h = each_map f xs h

followed_map : {A : Type 0} {P Q : A → A → Type 0} → ((x y : A) → P x y → Q x y) → (x : A) (xs : List A)
    → FollowedBy P x xs → FollowedBy Q x xs
followed_map f x [] h = tt
followed_map f x (y ∷ ys) h = (f x y h.0, followed_map f y ys h.1)

pub neighbours_map : {A : Type 0} {P Q : A → A → Type 0} → ((x y : A) → P x y → Q x y) → (xs : List A)
    → Neighbours P xs → Neighbours Q xs
neighbours_map f [] h = tt
neighbours_map f (x ∷ xs) h = followed_map f x xs h

module _ {A : Type 0} (P : A → Type 0) where
  pub both : (xs ys : List A) → Each P xs → Each P ys → Each P (xs ++ ys)
  both [] ys h k = k
  both (x ∷ xs) ys h k = (h.0, both xs ys h.1 k)

  pub front : (xs ys : List A) → Each P (xs ++ ys) → Each P xs
  front [] ys h = tt
  front (x ∷ xs) ys h = (h.0, front xs ys h.1)

  pub back : (xs ys : List A) → Each P (xs ++ ys) → Each P ys
  back [] ys h = h
  back (x ∷ xs) ys h = back xs ys h.1
