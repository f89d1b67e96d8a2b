-- The values of a graph's nodes, and its inputs in order.
use Rattle.std.proofs.Common.{◌≡◌, ℕ, zero, suc, ◌+◌, ◌-◌, ◌*◌, ◌/◌, ◌%◌, ◌<◌, ◌≤◌, ◌==◌, Bool, true, false, ◌&&◌}
use Rattle.std.proofs.Common.{List, [], ◌∷◌, ◌++◌, length, take, get_or, Some, refl, ap, sym, ◌∙◌, subst, ◌⊎◌, inl, inr}
use Rattle.std.proofs.Common.{arith}
use Rattle.std.specs.Prelude.{slice_get, slice_index_or}
use Rattle.std.proofs.lemmas.List.{length-append, length_push, get_or_append_left, get_or-take, take-append-le, take_all}
use Rattle.std.proofs.lemmas.List.{append_assoc}
use Rattle.std.proofs.lemmas.Option.{none-some, same_Some, slice_get_within}
use Rattle.bb_aig.specs.declared.node.AigNode.{AigNode}
use Rattle.bb_aig.specs.declared.node.AigNode.TheVariants as n
use Rattle.bb_aig.specs.Graph.{is_negated, turned, literal, value, values, values_of, lit_at, IsLit, IsFitting, IsGraph}
use Rattle.bb_aig.specs.Graph.{inputs_after, AreFitting}
use Rattle.bb_aig.proofs.Values.{length-values}

-- ---- values

-- values that are there stay
values_front : (x : ℕ → Bool) (vs : List Bool) (gs : List AigNode) → take (length vs) (values x vs gs) ≡ vs
values_front x vs [] = take_all (length vs) vs (omega arith)
values_front x vs (g ∷ gs) =
    let r = values_front x (vs ++ value x vs g ∷ []) gs in
    let l = length_push vs (value x vs g) in
    let m : take (length vs) (values x vs (g ∷ gs))
    ≡ take (length vs) (take (length (vs ++ value x vs g ∷ [])) (values x vs (g ∷ gs))) =
    shorter (length vs) (length (vs ++ value x vs g ∷ [])) (values x vs (g ∷ gs)) (omega (arith, l)) in
    m ∙ ap (take (length vs)) r ∙ take-append-le (length vs) vs (value x vs g ∷ []) (omega arith)
    ∙ take_all (length vs) vs (omega arith) where
      shorter : (m k : ℕ) (all : List Bool) → m ≤ k → take m all ≡ take m (take k all)
      shorter zero k all l = refl
      shorter (suc m) zero all l = absurd (omega (arith, l))
      shorter (suc m) (suc k) [] l = refl
      shorter (suc m) (suc k) (b ∷ bs) l =
          let less : m ≤ k = omega (arith, l) in ap (λ cs. b ∷ cs) (shorter m k bs less)

value_there : (x : ℕ → Bool) (vs : List Bool) (gs : List AigNode) (i : ℕ) → i < length vs
    → get_or (values x vs gs) i false ≡ get_or vs i false
value_there x vs gs i l =
    sym (get_or-take (length vs) (values x vs gs) i false l) ∙ ap (λ us. get_or us i false) (values_front x vs gs)

-- the value of a node, by those before it
node_at : (x : ℕ → Bool) (vs : List Bool) (gs : List AigNode) (j : ℕ) (g : AigNode) → slice_get gs j ≡ Some g
    → get_or (values x vs gs) (length vs + j) false ≡ value x (take (length vs + j) (values x vs gs)) g
node_at x vs [] j g e = absurd (none-some g e)
node_at x vs (h ∷ gs) zero g e =
    let l = length_push vs (value x vs h) in
    let z : length vs + 0 ≡ length vs = omega arith in
    ap (λ k. get_or (values x vs (h ∷ gs)) k false) z
    ∙ value_there x (vs ++ value x vs h ∷ []) gs (length vs) (omega (arith, l))
    ∙ pushed vs (value x vs h) ∙ ap (value x vs) (same_Some h g e)
    ∙ ap (λ us. value x us g) (sym (values_front x vs (h ∷ gs)))
    ∙ ap (λ k. value x (take k (values x vs (h ∷ gs))) g) (sym z) where
      pushed : (us : List Bool) (b : Bool) → get_or (us ++ b ∷ []) (length us) false ≡ b
      pushed [] b = refl
      pushed (c ∷ us) b = pushed us b
node_at x vs (h ∷ gs) (suc j) g e =
    let l = length_push vs (value x vs h) in
    let z : length vs + suc j ≡ length (vs ++ value x vs h ∷ []) + j = omega (arith, l) in
    ap (λ k. get_or (values x vs (h ∷ gs)) k false) z
    ∙ node_at x (vs ++ value x vs h ∷ []) gs j g e
    ∙ ap (λ k. value x (take k (values x vs (h ∷ gs))) g) (sym z)

-- literals of nodes before a place
front_literal : (vs : List Bool) (m a : ℕ) → a < 2 * m → literal (take m vs) a ≡ literal vs a
front_literal vs m a l = ap (turned (is_negated a)) (get_or-take m vs (a / 2) false (omega (arith, l)))

-- what a gate reads stands before it
operands : (k i : ℕ) (gs : List AigNode) (j a b : ℕ) → AreFitting k i gs → slice_get gs j ≡ Some (n.And a b)
    → (a < 2 * (k + j)) × (b < 2 * (k + j))
operands k i [] j a b f e = absurd (none-some (n.And a b) e)
operands k i (g ∷ gs) zero a b f e =
    let F : AigNode → Type 0 = λ h. IsFitting k i h in
    let p : IsFitting k i (n.And a b) = subst F (same_Some g (n.And a b) e) f.0 in
    let q = p.0 in
    let r = p.1 in
    (omega (arith, q), omega (arith, r))
operands k i (g ∷ gs) (suc j) a b f e =
    let r = operands (k + 1) (inputs_after i g) gs j a b f.1 e in
    let p = r.0 in
    let q = r.1 in
    (omega (arith, p), omega (arith, q))

module _ (graph : List AigNode) (h : IsGraph graph) where
  pub gate_operands : (j a b : ℕ) → slice_get graph j ≡ Some (n.And a b) → (a < 2 * j) × (b < 2 * j)
  gate_operands j a b e =
      let r = operands 0 0 graph j a b h.fitting e in
      let p = r.0 in
      let q = r.1 in
      (omega (arith, p), omega (arith, q))

  at_node : (x : ℕ → Bool) (j : ℕ) (g : AigNode) → slice_get graph j ≡ Some g
      → lit_at graph x (2 * j) ≡ value x (take j (values_of graph x)) g
  at_node x j g e =
      let r : 2 * j % 2 ≡ 0 = omega arith in
      let d : 2 * j / 2 ≡ 0 + j = omega arith in
      let z : 0 + j ≡ j = omega arith in
      ap (λ s. turned (s == 1) (slice_index_or (values_of graph x) (2 * j / 2) false)) r
      ∙ ap (λ k. slice_index_or (values_of graph x) k false) d ∙ node_at x [] graph j g e
      ∙ ap (λ k. value x (take k (values_of graph x)) g) z

  pub input_value : (x : ℕ → Bool) (j i : ℕ) → slice_get graph j ≡ Some (n.Input i) → lit_at graph x (2 * j) ≡ x i
  input_value x j i e = at_node x j (n.Input i) e

  pub false_value : (x : ℕ → Bool) (j : ℕ) → slice_get graph j ≡ Some n.False → lit_at graph x (2 * j) ≡ false
  false_value x j e = at_node x j n.False e

  pub gate_value : (x : ℕ → Bool) (j a b : ℕ) → slice_get graph j ≡ Some (n.And a b)
      → lit_at graph x (2 * j) ≡ (lit_at graph x a && lit_at graph x b)
  gate_value x j a b e =
      let o = gate_operands j a b e in
      at_node x j (n.And a b) e
      ∙ ap (λ c. c && literal (take j (values_of graph x)) b) (front_literal (values_of graph x) j a o.0)
      ∙ ap (λ c. literal (values_of graph x) a && c) (front_literal (values_of graph x) j b o.1)

-- node 0 alone is false
false_first : (k i : ℕ) (gs : List AigNode) (j : ℕ) → AreFitting k i gs → slice_get gs j ≡ Some n.False → k + j ≡ 0
false_first k i [] j f e = absurd (none-some n.False e)
false_first k i (g ∷ gs) zero f e =
    let F : AigNode → Type 0 = λ h. IsFitting k i h in
    let p : IsFitting k i n.False = subst F (same_Some g n.False e) f.0 in
    omega (arith, p)
false_first k i (g ∷ gs) (suc j) f e =
    let r = false_first (k + 1) (inputs_after i g) gs j f.1 e in omega (arith, r)

pub only_first : (graph : List AigNode) (j : ℕ) → IsGraph graph → slice_get graph j ≡ Some n.False → j ≡ 0
only_first graph j h e = let r = false_first 0 0 graph j h.fitting e in omega (arith, r)

pub first_node : (graph : List AigNode) → IsGraph graph → slice_get graph 0 ≡ Some n.False
first_node [] h = absurd h.begins
first_node (g ∷ gs) h = ap (λ x. Some x) h.begins
