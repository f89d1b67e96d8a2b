-- An order of nodes is as long as there are nodes.
use Rattle.std.proofs.Common.{◌≡◌, ℕ, zero, suc, ◌+◌, ◌<◌, ◌≤◌, ◌==◌, Bool, true, false, not, cond, ◌||◌, List, []}
use Rattle.std.proofs.Common.{◌∷◌, length, Some, refl, ap, sym, subst, ◌∙◌, ◌⊎◌, inl, inr, arith}
use Rattle.std.specs.Prelude.{slice_get}
use Rattle.std.proofs.lemmas.Bool.{false≢true, true≢false, cases_Bool, cases_eq, ne_eqb, eq-eqb, eqb-true, or_cases}
use Rattle.std.proofs.lemmas.Option.{none-some, same_Some, slice_get_within}
use Rattle.fv_graph.specs.Graph.{has_node, IsOrder, StandOnce}
use Rattle.aiger_text.proofs.SearchLaws.{cases_of}

-- the other nodes
abbrev without : ℕ → List ℕ → List ℕ
without m [] = []
without m (x ∷ xs) = cond (x == m) (without m xs) (x ∷ without m xs)

without_same : (m x : ℕ) (xs : List ℕ) → x ≡ m → without m (x ∷ xs) ≡ without m xs
without_same m x xs e = ap (λ b. cond b (without m xs) (x ∷ without m xs)) (eq-eqb x m e)

without_other : (m x : ℕ) (xs : List ℕ) → (x ≡ m → ⊥) → without m (x ∷ xs) ≡ x ∷ without m xs
without_other m x xs n = ap (λ b. cond b (without m xs) (x ∷ without m xs)) (ne_eqb x m n)

shorter : (m : ℕ) (xs : List ℕ) → length (without m xs) ≤ length xs
shorter m [] = omega arith
shorter m (x ∷ xs) = cases_of (cases_eq x m)
    (λ e. let l = ap length (without_same m x xs e) in let h = shorter m xs in omega (arith, l, h))
    (λ n. let l = ap length (without_other m x xs n) in let h = shorter m xs in omega (arith, l, h))

-- one of them at least is left out
one_less : (m : ℕ) (xs : List ℕ) → has_node xs m ≡ true → length (without m xs) + 1 ≤ length xs
one_less m [] h = absurd (false≢true h)
one_less m (x ∷ xs) h = cases_of (cases_eq x m)
    (λ e. let l = ap length (without_same m x xs e) in let r = shorter m xs in omega (arith, l, r))
    (λ n.
    let f : (m == x) ≡ false = ne_eqb m x (λ z. n (sym z)) in
    let l = ap length (without_other m x xs n) in
    let r = one_less m xs (sym (ap (λ b. b || has_node xs m) f) ∙ h) in
    omega (arith, l, r))

has_other : (m i : ℕ) (xs : List ℕ) → (i ≡ m → ⊥) → has_node xs i ≡ true → has_node (without m xs) i ≡ true
has_other m i [] n h = h
has_other m i (x ∷ xs) n h = cases_of (cases_eq x m)
    (λ e.
    let f : (i == x) ≡ false = ne_eqb i x (λ z. n (z ∙ e)) in
    ap (λ ys. has_node ys i) (without_same m x xs e)
    ∙ has_other m i xs n (sym (ap (λ b. b || has_node xs i) f) ∙ h))
    (λ d. ap (λ ys. has_node ys i) (without_other m x xs d)
    ∙ rest (λ t. has_other m i xs n t) (or_cases (i == x) (has_node xs i) h)) where
      rest : (has_node xs i ≡ true → has_node (without m xs) i ≡ true)
          → ((i == x) ≡ true) ⊎ (has_node xs i ≡ true) → ((i == x) || has_node (without m xs) i) ≡ true
      rest still (inl t) = ap (λ b. b || has_node (without m xs) i) t
      rest still (inr t) = cases_of (cases_Bool (i == x)) (λ s. ap (λ b. b || has_node (without m xs) i) s)
          (λ f. ap (λ b. b || has_node (without m xs) i) f ∙ still t)

-- a list of all nodes is no shorter
covers : (n : ℕ) (xs : List ℕ) → ((i : ℕ) → i < n → has_node xs i ≡ true) → n ≤ length xs
covers zero xs h = omega arith
covers (suc n) xs h =
    let r = covers n (without n xs)
    (λ i l. has_other n i xs (λ e. absurd (omega (arith, l, e))) (h i (omega (arith, l)))) in
    let o = one_less n xs (h n (omega arith)) in
    omega (arith, r, o)

-- ---- no node twice

abbrev AreDifferent : List ℕ → Type 0
AreDifferent [] = Unit {0}
AreDifferent (x ∷ xs) = (has_node xs x ≡ false) × AreDifferent xs

has_place : (i : ℕ) (xs : List ℕ) → has_node xs i ≡ true → (a : ℕ) × (slice_get xs a ≡ Some i)
has_place i [] h = absurd (false≢true h)
has_place i (x ∷ xs) h = cases_of (or_cases (i == x) (has_node xs i) h)
    (λ t. (0, ap (λ k. Some k) (sym (eqb-true i x t)))) (λ t. let r = has_place i xs t in (suc r.0, r.1))

different : (xs : List ℕ) → StandOnce xs → AreDifferent xs
different [] h = tt
different (x ∷ xs) h = (first, different xs later) where
  absent : has_node xs x ≡ true → ⊥
  absent t =
      let r = has_place x xs t in
      let e = h 0 (suc r.0) x refl r.1 in
      absurd (omega (arith, e))

  first : has_node xs x ≡ false
  first = cases_of (cases_Bool (has_node xs x)) (λ t. absurd (absent t)) (λ f. f)

  later : StandOnce xs
  later = λ a b i e f. let s = h (suc a) (suc b) i e f in omega (arith, s)

lacks : (m : ℕ) (xs : List ℕ) → has_node xs m ≡ false → length (without m xs) ≡ length xs
lacks m [] h = refl
lacks m (x ∷ xs) h = cases_of (cases_eq x m)
    (λ e. absurd (true≢false (sym (ap (λ b. b || has_node xs m) (eq-eqb m x (sym e))) ∙ h)))
    (λ n.
    let f : (m == x) ≡ false = ne_eqb m x (λ z. n (sym z)) in
    let l = ap length (without_other m x xs n) in
    let r = lacks m xs (sym (ap (λ b. b || has_node xs m) f) ∙ h) in
    omega (arith, l, r))

one_more : (m : ℕ) (xs : List ℕ) → AreDifferent xs → length xs ≤ length (without m xs) + 1
one_more m [] h = omega arith
one_more m (x ∷ xs) h = cases_of (cases_eq x m)
    (λ e.
    let l = ap length (without_same m x xs e) in
    let r = lacks m xs (ap (has_node xs) (sym e) ∙ h.0) in
    omega (arith, l, r))
    (λ n. let l = ap length (without_other m x xs n) in let r = one_more m xs h.1 in omega (arith, l, r))

lacks_still : (m i : ℕ) (xs : List ℕ) → has_node xs i ≡ false → has_node (without m xs) i ≡ false
lacks_still m i [] h = h
lacks_still m i (x ∷ xs) h = by (λ e. lacks_still m i xs e) (cases_Bool (i == x)) where
  by : (has_node xs i ≡ false → has_node (without m xs) i ≡ false) → ((i == x) ≡ true) ⊎ ((i == x) ≡ false)
      → has_node (without m (x ∷ xs)) i ≡ false
  by still (inl t) = absurd (true≢false (sym (ap (λ b. b || has_node xs i) t) ∙ h))
  by still (inr f) =
      let r = still (sym (ap (λ b. b || has_node xs i) f) ∙ h) in
      cases_of (cases_eq x m) (λ e. ap (λ ys. has_node ys i) (without_same m x xs e) ∙ r)
      (λ d. ap (λ ys. has_node ys i) (without_other m x xs d) ∙ ap (λ b. b || has_node (without m xs) i) f ∙ r)

different_still : (m : ℕ) (xs : List ℕ) → AreDifferent xs → AreDifferent (without m xs)
different_still m [] h = tt
different_still m (x ∷ xs) h = cases_of (cases_eq x m)
    (λ e. subst AreDifferent (sym (without_same m x xs e)) (different_still m xs h.1))
    (λ d. subst AreDifferent (sym (without_other m x xs d)) (lacks_still m x xs h.0, different_still m xs h.1))

abbrev AreBelow : ℕ → List ℕ → Type 0
AreBelow n xs = (a i : ℕ) → slice_get xs a ≡ Some i → i < n

below_still : (n : ℕ) (xs : List ℕ) → AreBelow (suc n) xs → AreBelow n (without n xs)
below_still n [] h a i e = absurd (none-some i e)
below_still n (x ∷ xs) h a i e = cases_of (cases_eq x n)
    (λ s. below_still n xs (λ b j f. h (suc b) j f) a i (ap (λ ys. slice_get ys a) (sym (without_same n x xs s)) ∙ e))
    (λ d. by (λ b f. below_still n xs (λ c j g. h (suc c) j g) b i f) a
    (ap (λ ys. slice_get ys a) (sym (without_other n x xs d)) ∙ e) d) where
      by : ((b : ℕ) → slice_get (without n xs) b ≡ Some i → i < n) → (b : ℕ)
          → slice_get (x ∷ without n xs) b ≡ Some i → (x ≡ n → ⊥) → i < n
      by still zero f d =
          let s = same_Some x i f in
          let l = h 0 x refl in
          omega (arith, s, l, d)
      by still (suc b) f d = still b f

-- a list of different nodes is no longer
fits : (n : ℕ) (xs : List ℕ) → AreDifferent xs → AreBelow n xs → length xs ≤ n
fits zero [] d b = omega arith
fits zero (x ∷ xs) d b = let l = b 0 x refl in absurd (omega (arith, l))
fits (suc n) xs d b =
    let r = fits n (without n xs) (different_still n xs d) (below_still n xs b) in
    let o = one_more n xs d in
    omega (arith, r, o)

pub order_length : (graph : List (List ℕ)) (order : List ℕ) → IsOrder graph order → length order ≡ length graph
order_length graph order o =
    let l = covers (length graph) order o.all in
    let m = fits (length graph) order (different order o.once) o.only in
    omega (arith, l, m)

-- where each node stands
pub order_place : (graph : List (List ℕ)) (order : List ℕ) → IsOrder graph order → (i : ℕ) → i < length graph
    → (a : ℕ) × (slice_get order a ≡ Some i)
order_place graph order o i less = has_place i order (o.all i less)
