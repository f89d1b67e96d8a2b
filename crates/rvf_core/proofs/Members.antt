-- Members of lists, by cases on the list.
use Rattle.std.proofs.Common.{◌≡◌, ◌⊎◌, inl, inr, ℕ, zero, suc, ◌+◌, ◌<◌, Bool, true, false, cond, List, [], ◌∷◌, ◌++◌}
use Rattle.std.proofs.Common.{length, get_or, refl, sym, ap, ◌∙◌, subst, arith}
use Rattle.std.specs.Prelude.{map}
use Rattle.std.specs.List.{Contains, filter, flat_map, range_with_len}

abbrev pub In : {X : Type 0} → X → List X → Type 0
In x [] = ⊥
In x (y ∷ ys) = (y ≡ x) ⊎ In x ys

module _ {X : Type 0} where
  at_place : (x : X) (xs : List X) (k : ℕ) → k < length xs → get_or xs k x ≡ x → In x xs
  at_place x [] k less e = absurd (omega (arith, less))
  at_place x (y ∷ ys) zero less e = inl e
  at_place x (y ∷ ys) (suc k) less e = inr (at_place x ys k (omega (arith, less)) e)

  pub from_contains : (x : X) (xs : List X) → Contains xs x → In x xs
  from_contains x xs h = at_place x xs h.0 h.1 h.2

  behind : (x y : X) (ys : List X) → Contains ys x → Contains (y ∷ ys) x
  behind x y ys h = let less = h.1 in (suc h.0, omega (arith, less), h.2)

  pub to_contains : (x : X) (xs : List X) → In x xs → Contains xs x
  to_contains x [] h = absurd h
  to_contains x (y ∷ ys) (inl e) = (zero, omega arith, e)
  to_contains x (y ∷ ys) (inr h) = behind x y ys (to_contains x ys h)

  pub in_left : (x : X) (xs ys : List X) → In x xs → In x (xs ++ ys)
  in_left x [] ys h = absurd h
  in_left x (z ∷ zs) ys (inl e) = inl e
  in_left x (z ∷ zs) ys (inr h) = inr (in_left x zs ys h)

  pub in_right : (x : X) (xs ys : List X) → In x ys → In x (xs ++ ys)
  in_right x [] ys h = h
  in_right x (z ∷ zs) ys h = inr (in_right x zs ys h)

  pub in_either : (x : X) (xs ys : List X) → In x (xs ++ ys) → In x xs ⊎ In x ys
  in_either x [] ys h = inr h
  in_either x (z ∷ zs) ys (inl e) = inl (inl e)
  in_either x (z ∷ zs) ys (inr h) = elim (in_either x zs ys h) [ inl i ↦ inl (inr i) | inr i ↦ inr i ]

  pub in_filter : (p : X → Bool) (x : X) (xs : List X) → In x xs → p x ≡ true → In x (filter p xs)
  in_filter p x [] h e = absurd h
  in_filter p x (y ∷ ys) (inl q) e = by (p y) (ap p q ∙ e)
    where
      by : (b : Bool) → b ≡ true → In x (cond b (y ∷ filter p ys) (filter p ys))
      by true t = inl q
      by false t = absurd (let f : ⊥ = cc in f)
  in_filter p x (y ∷ ys) (inr h) e = by (p y) (in_filter p x ys h e)
    where
      by : (b : Bool) → In x (filter p ys) → In x (cond b (y ∷ filter p ys) (filter p ys))
      by true i = inr i
      by false i = i

  -- what is kept stood there
  pub from_filter : (p : X → Bool) (x : X) (xs : List X) → In x (filter p xs) → In x xs
  from_filter p x [] h = absurd h
  from_filter p x (y ∷ ys) h = by (p y) (λ i. from_filter p x ys i) h
    where
      by : (b : Bool) → (In x (filter p ys) → In x ys) → In x (cond b (y ∷ filter p ys) (filter p ys))
          → In x (y ∷ ys)
      by true rest (inl e) = inl e
      by true rest (inr i) = inr (rest i)
      by false rest i = inr (rest i)

module _ {X Y : Type 0} (f : X → List Y) where
  pub in_flat : (y : Y) (x : X) (xs : List X) → In x xs → In y (f x) → In y (flat_map f xs)
  in_flat y x [] h i = absurd h
  in_flat y x (z ∷ zs) (inl e) i =
      in_left y (f z) (flat_map f zs) (subst (λ w. In y (f w)) (sym e) i)
  in_flat y x (z ∷ zs) (inr h) i = in_right y (f z) (flat_map f zs) (in_flat y x zs h i)

  -- of which element it comes
  pub from_flat : (y : Y) (xs : List X) → In y (flat_map f xs) → (x : X) × In x xs × In y (f x)
  from_flat y [] h = absurd h
  from_flat y (z ∷ zs) h = elim (in_either y (f z) (flat_map f zs) h) [
    | inl i ↦ (z, inl refl, i)
    | inr i ↦ let r = from_flat y zs i in (r.0, inr r.1, r.2)
  ]

module _ {X Y : Type 0} (f : X → Y) where
  pub in_map : (x : X) (xs : List X) → In x xs → In (f x) (map f xs)
  in_map x [] h = absurd h
  in_map x (y ∷ ys) (inl e) = inl (ap f e)
  in_map x (y ∷ ys) (inr h) = inr (in_map x ys h)

pub in_range : (n from j : ℕ) → j < n → In (from + j) (range_with_len from n)
in_range zero from j h = absurd (omega (arith, h))
in_range (suc n) from zero h = inl (omega arith)
in_range (suc n) from (suc j) h =
    let e : from + 1 + j ≡ from + suc j = omega arith in
    inr (subst (λ k. In k (range_with_len (from + 1) n)) e (in_range n (from + 1) j (omega (arith, h))))
