-- Where a number stands first in a list.
use Rattle.std.proofs.Common.{◌≡◌, ℕ, zero, suc, ◌+◌, ◌<◌, ◌≤◌, Bool, true, false, not, cond, ◌||◌, List, [], ◌∷◌, ◌++◌, length}
use Rattle.std.proofs.Common.{Option, Some, None, get_or, refl, ap, sym, ◌∙◌, subst, inl, inr, ◌⊎◌, arith}
use Rattle.std.specs.Prelude.{nat_eq, nat_lt, position, slice_get, option_map}
use Rattle.std.specs.List.{list_any, position_or_len}
use Rattle.std.proofs.lemmas.Bool.{false≢true, cases_Bool}
use Rattle.std.proofs.lemmas.Bool.Decides.{nat_tests}
use Rattle.std.proofs.lemmas.List.Folds.{list_any_at}
use Rattle.std.proofs.lemmas.List.Quantifiers.{position-Some}
use Rattle.std.proofs.lemmas.Option.{none-some, slice_get-get_or, get_or_from_slice_get, slice_get_within}
use Rattle.fv_graph.specs.Graph.{StandOnce}
use Rattle.fv_graph.proofs.Lists.{get_cases}

nat_eq_true : (a b : ℕ) → nat_eq a b ≡ true → a ≡ b
nat_eq_true a b e = grind (arith, nat_tests)

nat_eq_same : (a : ℕ) → nat_eq a a ≡ true
nat_eq_same a = grind (arith, nat_tests)

nat_eq_false : (a b : ℕ) → (a ≡ b → ⊥) → nat_eq a b ≡ false
nat_eq_false a b n = by (cases_Bool (nat_eq a b)) where
  by : (nat_eq a b ≡ true) ⊎ (nat_eq a b ≡ false) → nat_eq a b ≡ false
  by (inl e) = absurd (n (nat_eq_true a b e))
  by (inr e) = e

module _ (p : ℕ → Bool) where
  -- one more element before them
  passed : (x : ℕ) (xs : List ℕ) → p x ≡ false → position_or_len p (x ∷ xs) ≡ 1 + position_or_len p xs
  passed x xs e = ap (λ b. cond (not b) (1 + position_or_len p xs) 0) e

  here : (x : ℕ) (xs : List ℕ) → p x ≡ true → position_or_len p (x ∷ xs) ≡ 0
  here x xs e = ap (λ b. cond (not b) (1 + position_or_len p xs) 0) e

  any_place : (xs : List ℕ) → list_any p xs ≡ true → position_or_len p xs < length xs
  any_place [] h = absurd (false≢true h)
  any_place (x ∷ xs) h = by (λ e. any_place xs e) (cases_Bool (p x)) where
    by : (list_any p xs ≡ true → position_or_len p xs < length xs) → (p x ≡ true) ⊎ (p x ≡ false)
        → position_or_len p (x ∷ xs) < length (x ∷ xs)
    by later (inl e) = let z = here x xs e in omega (arith, z)
    by later (inr e) =
        let z = passed x xs e in
        let l = later (sym (ap (λ b. b || list_any p xs) e) ∙ h) in
        omega (arith, z, l)

  place_at : (xs : List ℕ) (i : ℕ) → i < length xs → p (get_or xs i 0) ≡ true
      → ((k : ℕ) → k < i → p (get_or xs k 0) ≡ false) → position_or_len p xs ≡ i
  place_at [] i l t b = absurd (omega (arith, l))
  place_at (x ∷ xs) zero l t b = here x xs t
  place_at (x ∷ xs) (suc i) l t b =
      let z = passed x xs (b 0 (omega arith)) in
      let less : i < length xs = omega (arith, l) in
      let r = place_at xs i less t (λ k h. b (suc k) (omega (arith, h))) in
      omega (arith, z, r)

  found_there : (xs : List ℕ) (i : ℕ) → position_or_len p xs ≡ i → i < length xs → position p xs ≡ Some i
  found_there xs i e l =
      let t : nat_lt i (length xs) ≡ true = grind (arith, nat_tests) in
      ap (λ n. cond (nat_lt n (length xs)) (Some n) None) e ∙ ap (λ b. cond b (Some i) None) t

  pub any_from_place : (xs : List ℕ) (i : ℕ) → position p xs ≡ Some i → list_any p xs ≡ true
  any_from_place xs i e =
      let h = position-Some p xs i 0 e in
      list_any_at p xs i 0 h.0 h.1

  pub none_from_place : (xs : List ℕ) → position p xs ≡ None → list_any p xs ≡ false
  none_from_place xs e = by (cases_Bool (list_any p xs)) where
    by : (list_any p xs ≡ true) ⊎ (list_any p xs ≡ false) → list_any p xs ≡ false
    by (inl h) =
        absurd (none-some (position_or_len p xs)
        (sym e ∙ found_there xs (position_or_len p xs) refl (any_place xs h)))
    by (inr h) = h

-- the element at the place that was found is the one that was sought
pub place_has : (v i : ℕ) (vs : List ℕ) → position (nat_eq v) vs ≡ Some i → slice_get vs i ≡ Some v
place_has v i vs e =
    let h = position-Some (nat_eq v) vs i 0 e in
    slice_get-get_or vs i 0 h.0 ∙ ap (λ x. Some x) (sym (nat_eq_true v (get_or vs i 0) h.1))

-- what stands once is found where it stands
pub place_is : (v i : ℕ) (vs : List ℕ) → StandOnce vs → slice_get vs i ≡ Some v → position (nat_eq v) vs ≡ Some i
place_is v i vs once e =
    let less = slice_get_within vs i v e in
    let same : get_or vs i 0 ≡ v = get_or_from_slice_get vs i v 0 e in
    found_there (nat_eq v) vs i
    (place_at (nat_eq v) vs i less (ap (nat_eq v) same ∙ nat_eq_same v)
    (λ k h.
    let low : k < length vs = omega (arith, h, less) in
    nat_eq_false v (get_or vs k 0)
    (λ q. absurd (let z = once k i v (slice_get-get_or vs k 0 low ∙ ap (λ x. Some x) (sym q)) e in omega (arith, h, z)))))
    less

-- one more number, which isn't among them
pub once_push : (v : ℕ) (vs : List ℕ) → StandOnce vs → list_any (nat_eq v) vs ≡ false → StandOnce (vs ++ v ∷ [])
once_push v vs once none = λ a b i e f. by a b i (get_cases vs v a i e) (get_cases vs v b i f) where
  absent : (a : ℕ) → slice_get vs a ≡ Some v → ⊥
  absent a e =
      let less = slice_get_within vs a v e in
      false≢true (sym none ∙ list_any_at (nat_eq v) vs a 0 less
      (ap (nat_eq v) (get_or_from_slice_get vs a v 0 e) ∙ nat_eq_same v))

  by : (a b i : ℕ) → (slice_get vs a ≡ Some i) ⊎ ((a ≡ length vs) × (v ≡ i))
      → (slice_get vs b ≡ Some i) ⊎ ((b ≡ length vs) × (v ≡ i)) → a ≡ b
  by a b i (inl e) (inl f) = once a b i e f
  by a b i (inl e) (inr f) = absurd (absent a (e ∙ ap (λ x. Some x) (sym f.1)))
  by a b i (inr e) (inl f) = absurd (absent b (f ∙ ap (λ x. Some x) (sym e.1)))
  by a b i (inr e) (inr f) = e.0 ∙ sym f.0
