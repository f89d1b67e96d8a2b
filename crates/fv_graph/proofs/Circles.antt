-- The path from a node on is a circle, where its last node leads to that node.
use Rattle.std.specs.Prelude.{◌≡◌, refl, ℕ, zero, suc, ◌==◌, List, [], ◌∷◌, length, Bool, true}
use Rattle.std.specs.Prelude.{false}
use Rattle.std.specs.Prelude.{Some, is_none, slice_get, if◌then◌else◌, ◌≤◌, ◌++◌, take, drop}
use Rattle.std.proofs.Common.{ap, sym, ◌∙◌, arith, subst, true≢false, append_assoc, ◌⊎◌, inl, inr}
use Rattle.std.proofs.lemmas.Bool.Decides.{nat_tests}
use Rattle.std.proofs.lemmas.Option.{same_Some}
use Rattle.fv_graph.specs.declared.state.Step.{Step}
use Rattle.fv_graph.specs.Graph.{Leads, IsChain, last_node, IsCircle, StandOnce}
use Rattle.fv_graph.specs.Walking.{nodes_of, nodes_from}
use Rattle.fv_graph.proofs.Lists.{get_cases}

module _ (g : List (List ℕ)) where
  abbrev pub Follows : List Step → Type 0
  Follows path =
      (a : ℕ) (s t : Step) → slice_get path a ≡ Some s → slice_get path (suc a) ≡ Some t → Leads g s.node t.node

  chain : (s : Step) (path : List Step) → Follows (s ∷ path) → IsChain g s.node (nodes_of path)
  chain s [] f = tt
  chain s (t ∷ path) f = (f zero s t refl refl, chain t path (λ a x y e h. f (suc a) x y e h))

  last_is : (s : Step) (path : List Step) (t : ℕ)
      → ((x : Step) → slice_get (s ∷ path) (length path) ≡ Some x → Leads g x.node t)
      → Leads g (last_node s.node (nodes_of path)) t
  last_is s [] t f = f s refl
  last_is s (x ∷ path) t f = last_is x path t f

  pub closes : (path : List Step) (t : ℕ) → Follows path → (a : ℕ) (s : Step) → slice_get path a ≡ Some s
      → s.node ≡ t
      → ((b : ℕ) (x : Step) → suc b ≡ length path → slice_get path b ≡ Some x → Leads g x.node t)
      → IsCircle g (nodes_from path t)
  closes [] t f a s e same last = absurd (true≢false (ap is_none e))
  closes (x ∷ path) t f a s e same last =
      by (x.node == t) refl a e (λ b h. closes path t (λ c y z i j. f (suc c) y z i j) b s h same (λ c y i j.
      last (suc c) y (ap suc i) j))
    where
      by : (b : Bool) → (x.node == t) ≡ b → (a : ℕ) → slice_get (x ∷ path) a ≡ Some s
          → ((b : ℕ) → slice_get path b ≡ Some s → IsCircle g (nodes_from path t))
          → IsCircle g (if b then nodes_of (x ∷ path) else nodes_from path t)
      by true e a h rest =
          let is : x.node ≡ t = grind (arith, nat_tests, e) in (
            chain x path f,
            subst (λ m. Leads g (last_node x.node (nodes_of path)) m) (sym is)
                (last_is x path t (λ y i. last (length path) y refl i)),
          )
      by false e zero h rest =
          let is : x.node ≡ t = ap (λ z. z.node) (same_Some x s h) ∙ same in
          absurd (true≢false (sym (grind (arith, nat_tests, is)) ∙ e))
      by false e (suc a) h rest = rest a h

-- ---- each node once

-- no two steps are at one node
abbrev pub AreApart : List Step → Type 0
AreApart path =
    (a b : ℕ) (s t : Step) → slice_get path a ≡ Some s → slice_get path b ≡ Some t → s.node ≡ t.node → a ≡ b

step_of : (path : List Step) (a i : ℕ) → slice_get (nodes_of path) a ≡ Some i
    → (s : Step) × (slice_get path a ≡ Some s) × (s.node ≡ i)
step_of [] a i e = absurd (true≢false (ap is_none e))
step_of (x ∷ path) zero i e = (x, refl, same_Some x.node i e)
step_of (x ∷ path) (suc a) i e = step_of path a i e

nodes_once : (path : List Step) → AreApart path → StandOnce (nodes_of path)
nodes_once path apart a b i e f =
    let r = step_of path a i e in
    let q = step_of path b i f in
    apart a b r.0 q.0 r.1 q.1 (r.2 ∙ sym q.2)

pub from_once : (path : List Step) (t : ℕ) → AreApart path → StandOnce (nodes_from path t)
from_once [] t apart = λ a b i e f. absurd (true≢false (ap is_none e))
from_once (x ∷ path) t apart =
    by (x.node == t)
    (from_once path t (λ a b s u e f same.
    let next : suc a ≡ suc b = apart (suc a) (suc b) s u e f same in omega (arith, next)))
  where
    by : (b : Bool) → StandOnce (nodes_from path t)
        → StandOnce (if b then nodes_of (x ∷ path) else nodes_from path t)
    by true rest = nodes_once (x ∷ path) apart
    by false rest = rest

-- ---- turned

drop_front : (xs ys : List ℕ) (k : ℕ) → k ≤ length xs → drop k (xs ++ ys) ≡ drop k xs ++ ys
drop_front xs ys zero h = refl
drop_front [] ys (suc k) h = absurd (omega (arith, h))
drop_front (x ∷ xs) ys (suc k) h = drop_front xs ys k (omega (arith, h))

take_front : (xs ys : List ℕ) (k : ℕ) → k ≤ length xs → take k (xs ++ ys) ≡ take k xs
take_front xs ys zero h = refl
take_front [] ys (suc k) h = absurd (omega (arith, h))
take_front (x ∷ xs) ys (suc k) h = ap (λ zs. x ∷ zs) (take_front xs ys k (omega (arith, h)))

nothing_more : (xs : List ℕ) → xs ++ [] ≡ xs
nothing_more [] = refl
nothing_more (x ∷ xs) = ap (λ zs. x ∷ zs) (nothing_more xs)

length_one : (xs : List ℕ) (x : ℕ) → length (xs ++ x ∷ []) ≡ suc (length xs)
length_one [] x = refl
length_one (y ∷ ys) x = ap suc (length_one ys x)

-- what a list keeps when its first node is put behind the others, it keeps when it is turned
turned : (P : List ℕ → Type 0) → ((i : ℕ) (is : List ℕ) → P (i ∷ is) → P (is ++ i ∷ []))
    → (at : ℕ) (xs : List ℕ) → at ≤ length xs → P xs → P (drop at xs ++ take at xs)
turned P by_one zero xs h p = subst P (sym (nothing_more xs)) p
turned P by_one (suc k) [] h p = absurd (omega (arith, h))
turned P by_one (suc k) (i ∷ is) h p =
    let le : k ≤ length is = omega (arith, h) in
    let more : k ≤ length (is ++ i ∷ []) = omega (arith, le, length_one is i) in
    subst P (ap (λ zs. zs ++ take k (is ++ i ∷ [])) (drop_front is (i ∷ []) k le)
    ∙ ap (λ zs. (drop k is ++ i ∷ []) ++ zs) (take_front is (i ∷ []) k le)
    ∙ append_assoc (drop k is) (i ∷ []) (take k is))
    (turned P by_one k (is ++ i ∷ []) more (by_one i is p))

module _ (g : List (List ℕ)) where
  chain_more : (i : ℕ) (js : List ℕ) (x : ℕ) → IsChain g i js → Leads g (last_node i js) x
      → IsChain g i (js ++ x ∷ [])
  chain_more i [] x chain last = (last, tt)
  chain_more i (j ∷ js) x chain last = (chain.0, chain_more j js x chain.1 last)

  last_more : (i : ℕ) (js : List ℕ) (x : ℕ) → last_node i (js ++ x ∷ []) ≡ x
  last_more i [] x = refl
  last_more i (j ∷ js) x = last_more j js x

  by_one : (i : ℕ) (is : List ℕ) → IsCircle g (i ∷ is) → IsCircle g (is ++ i ∷ [])
  by_one i [] h = h
  by_one i (j ∷ js) h = (
    chain_more j js i h.0.1 h.1,
    subst (λ m. Leads g m j) (sym (last_more j js i)) h.0.0,
  )

pub circle_turned : (g : List (List ℕ)) (at : ℕ) (xs ys : List ℕ) → at ≤ length xs
    → ys ≡ drop at xs ++ take at xs → IsCircle g xs → IsCircle g ys
circle_turned g at xs ys h e c = subst (IsCircle g) (sym e) (turned (IsCircle g) (by_one g) at xs h c)

once_by_one : (i : ℕ) (is : List ℕ) → StandOnce (i ∷ is) → StandOnce (is ++ i ∷ [])
once_by_one i is h a b n e f = by (get_cases is i a n e) (get_cases is i b n f)
  where
    by : (slice_get is a ≡ Some n) ⊎ ((a ≡ length is) × (i ≡ n))
        → (slice_get is b ≡ Some n) ⊎ ((b ≡ length is) × (i ≡ n)) → a ≡ b
    by (inl p) (inl q) = let next : suc a ≡ suc b = h (suc a) (suc b) n p q in omega (arith, next)
    by (inl p) (inr q) = let next : suc a ≡ zero = h (suc a) zero n p (ap Some q.1) in absurd (omega (arith, next))
    by (inr p) (inl q) = let next : zero ≡ suc b = h zero (suc b) n (ap Some p.1) q in absurd (omega (arith, next))
    by (inr p) (inr q) = p.0 ∙ sym q.0

pub once_turned : (at : ℕ) (xs ys : List ℕ) → at ≤ length xs → ys ≡ drop at xs ++ take at xs → StandOnce xs
    → StandOnce ys
once_turned at xs ys h e once = subst StandOnce (sym e) (turned StandOnce once_by_one at xs h once)
