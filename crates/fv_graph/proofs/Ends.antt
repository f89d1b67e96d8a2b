-- A walk's begin, where all nodes are new, and its end, where none is; and that an order leaves no circle.
use Rattle.std.specs.Prelude.{◌≡◌, refl, ℕ, zero, suc, ◌<◌, ◌≤◌, List, [], ◌∷◌}
use Rattle.std.specs.Prelude.{length, true, replicate}
use Rattle.std.specs.Prelude.{Some, is_none, slice_get}
use Rattle.std.proofs.Common.{ap, sym, ◌∙◌, arith, subst, true≢false, ◌⊎◌, inl, inr}
use Rattle.std.proofs.lemmas.Option.{same_Some}
use Rattle.fv_graph.specs.declared.state.Progress.{Progress}
use Rattle.fv_graph.specs.declared.state.Progress.TheVariants as p
use Rattle.fv_graph.specs.declared.state.Step.{Step}
use Rattle.fv_graph.specs.Graph.{or_empty, Leads, has_node, IsChain, last_node, IsCircle, IsOrder}
use Rattle.fv_graph.specs.Walking.{Walks, AreFewer}
use Rattle.fv_graph.proofs.Lists.{get_less, get_some}
use Rattle.fv_graph.proofs.Moves.{starts, place_of, same_or_not}

-- ---- the begin

new_only : (n i : ℕ) (x : Progress) → slice_get (replicate n p.New) i ≡ Some x → x ≡ p.New
new_only zero i x e = absurd (true≢false (ap is_none e))
new_only (suc n) zero x e = sym (same_Some p.New x e)
new_only (suc n) (suc i) x e = new_only n i x e

length_new : (n : ℕ) → length (replicate n p.New) ≡ n
length_new zero = refl
length_new (suc n) = ap suc (length_new n)

pub begun_new : (g : List (List ℕ)) (ps : List Progress) (path : List Step) (done : List ℕ)
    → ps ≡ replicate (length g) p.New → path ≡ [] → done ≡ [] → Walks g ps path done
begun_new g ps path done e f h =
    subst (λ x. Walks g x path done) (sym e) (subst (λ x. Walks g (replicate (length g) p.New) x done) (sym f)
    (subst (λ x. Walks g (replicate (length g) p.New) [] x) (sym h)
    (starts g (replicate (length g) p.New) (length_new (length g)) (new_only (length g)))))

-- ---- one node after the other

abbrev pub NoneNewBelow : ℕ → List Progress → Type 0
NoneNewBelow n ps = (i : ℕ) → i < n → slice_get ps i ≡ Some p.New → ⊥

pub one_more : (ps qs : List Progress) (n : ℕ) → NoneNewBelow n ps → AreFewer ps qs
    → (slice_get qs n ≡ Some p.New → ⊥) → NoneNewBelow (suc n) qs
one_more ps qs n below fewer last i less e = by (same_or_not i n)
  where
    by : (i ≡ n) ⊎ (i ≡ n → ⊥) → ⊥
    by (inl same) = last (ap (slice_get qs) (sym same) ∙ e)
    by (inr other) = let lower : i < n = omega (arith, less, other) in below i lower (fewer i e)

-- a node that is open stands on the path
pub none_open : (g : List (List ℕ)) (ps : List Progress) (path : List Step) (done : List ℕ) → Walks g ps path done
    → path ≡ [] → (i : ℕ) → slice_get ps i ≡ Some p.Open → ⊥
none_open g ps path done w empty i e =
    let r = w.opened i e in
    absurd (true≢false (ap is_none (ap (λ q. slice_get q r.0) (sym empty) ∙ r.2)))

-- ---- the end

pub ordered : (g : List (List ℕ)) (ps : List Progress) (path : List Step) (done : List ℕ) (n : ℕ)
    → Walks g ps path done → path ≡ [] → length g ≤ n → NoneNewBelow n ps → IsOrder g done
ordered g ps path done n w empty all none = record {
  only = λ a i e. only i (w.listed a i e);
  all = λ i less. let size : i < length ps = omega (arith, less, w.size) in
      let r = get_some ps i size in stands i less r.0 r.1;
  once = w.once;
  behind = λ a b i j e f lead.
      let r = w.closed a i j e lead in
      let same : b ≡ r.0 = w.once b r.0 j f r.2 in omega (arith, r.1, same);
}
  where
    only : (i : ℕ) → slice_get ps i ≡ Some p.Done → i < length g
    only i e = let less = get_less ps i p.Done e in omega (arith, less, w.size)

    stands : (i : ℕ) → i < length g → (x : Progress) → slice_get ps i ≡ Some x → has_node done i ≡ true
    stands i less p.New e = absurd (none i (omega (arith, less, all)) e)
    stands i less p.Open e = absurd (none_open g ps path done w empty i e)
    stands i less p.Done e = w.finished i e

-- ---- no circle beside an order

module _ (g : List (List ℕ)) (order : List ℕ) (w : IsOrder g order) where
  in_graph : (xs : List (List ℕ)) (i k j : ℕ) → slice_get (or_empty (slice_get xs i)) k ≡ Some j → i < length xs
  in_graph [] i k j e = absurd (true≢false (ap is_none e))
  in_graph (x ∷ xs) zero k j e = omega arith
  in_graph (x ∷ xs) (suc i) k j e = let less = in_graph xs i k j e in omega (arith, less)

  placed : (i j : ℕ) → Leads g i j → (a : ℕ) × (slice_get order a ≡ Some i)
  placed i j lead = place_of order i (w.all i (in_graph g i lead.0 j lead.1))

  leads_on : (i : ℕ) (js : List ℕ) (t : ℕ) → IsChain g i js → Leads g (last_node i js) t
      → (x : ℕ) × Leads g i x
  leads_on i [] t chain last = (t, last)
  leads_on i (j ∷ js) t chain last = (j, chain.0)

  falls : (i : ℕ) (js : List ℕ) (t a : ℕ) → slice_get order a ≡ Some i → IsChain g i js
      → Leads g (last_node i js) t → (b : ℕ) × (slice_get order b ≡ Some (last_node i js)) × (b ≤ a)
  falls i [] t a e chain last = (a, e, omega arith)
  falls i (j ∷ js) t a e chain last =
      let l = leads_on j js t chain.1 last in
      let q = placed j l.0 l.1 in
      let less = w.behind a q.0 i j e q.1 chain.0 in
      let r = falls j js t q.0 q.1 chain.1 last in (r.0, r.1, omega (arith, less, r.2))

  pub no_circle : (circle : List ℕ) → IsCircle g circle → ⊥
  no_circle [] h = h
  no_circle (i ∷ is) h =
      let l = leads_on i is i h.0 h.1 in
      let q = placed i l.0 l.1 in
      let r = falls i is i q.0 q.1 h.0 h.1 in
      let less = w.behind r.0 q.0 (last_node i is) i r.1 q.1 h.1 in absurd (omega (arith, less, r.2))

pub no_circle_beside : (g : List (List ℕ)) (order circle : List ℕ) → IsOrder g order → IsCircle g circle → ⊥
no_circle_beside g order circle w c = no_circle g order w circle c
