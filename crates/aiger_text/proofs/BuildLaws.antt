-- The graph of a text, one node more, and when all are there.
use Rattle.std.proofs.Common.{◌≡◌, ℕ, zero, suc, ◌+◌, ◌-◌, ◌*◌, ◌/◌, ◌%◌, ◌<◌, ◌≤◌, ◌==◌, Bool, true, false, ◌&&◌}
use Rattle.std.proofs.Common.{List, [], ◌∷◌, ◌++◌, length, map, Some, refl, ap, sym, ◌∙◌, subst, ◌⊎◌, inl, inr, arith}
use Rattle.std.specs.Prelude.{slice_get, slice_index, slice_index_or, slice_set, replicate}
use Rattle.std.proofs.lemmas.Bool.{cases_eq, cases_lt}
use Rattle.std.proofs.lemmas.List.{length-map, length-set, length-replicate, length_push, get_or-set_same, get_or-set_other}
use Rattle.std.proofs.lemmas.Option.{none-some, same_Some, slice_get_within}
use Rattle.bb_aig.specs.declared.node.AigNode.{AigNode}
use Rattle.bb_aig.specs.declared.node.AigNode.TheVariants as n
use Rattle.bb_aig.specs.Graph.{is_negated, turned, literal, values_of, lit_at, inputs_of, IsLit, Adds}
use Rattle.bb_aig.proofs.Values.{count_push}
use Rattle.fv_graph.specs.Graph.{Leads, IsOrder}
use Rattle.fv_graph.proofs.Lists.{get_front, get_last, get_some}
use Rattle.aiger_text.specs.declared.wires.Wire.{Wire}
use Rattle.aiger_text.specs.Wires.{gate_target, row_of, successors, wire_value, MeetsWires, IsBuilt}
use Rattle.aiger_text.specs.Built.{moved, IsPlaced, Begins, IsDone, Builds}
use Rattle.aiger_text.proofs.SearchLaws.{cases_of}
use Rattle.aiger_text.proofs.DependLaws.{target_some, in_left, in_right, targets_at}
use Rattle.aiger_text.proofs.OrderLaws.{order_length, order_place}

-- ---- node 0 and the inputs

all_zero : (count i : ℕ) → slice_index (replicate count 0) i ≡ 0
all_zero zero i = refl
all_zero (suc count) zero = refl
all_zero (suc count) (suc i) = all_zero count i

first : (nodes : ℕ) → Begins 0 nodes (n.False ∷ []) (replicate nodes 0)
first nodes = record {
  size = length-replicate nodes 0;
  long = refl;
  count = refl;
  first = λ k l. absurd (omega (arith, l));
  placed = λ i l. (
    (let z = all_zero nodes i in
        let b : 0 < 2 * length {A = AigNode} (n.False ∷ []) = omega arith in omega (arith, z, b)),
    ap (λ k. k % 2) (all_zero nodes i),
  );
  constant = λ x. ap (lit_at (n.False ∷ []) x) (all_zero nodes 0);
  given = λ x k l. absurd (omega (arith, l));
}

pub begins : (nodes : ℕ) (graph : List AigNode) (lits : List ℕ) → graph ≡ n.False ∷ [] → lits ≡ replicate nodes 0
    → Begins 0 nodes graph lits
begins nodes graph lits g l =
    subst (λ x. Begins 0 nodes x lits) (sym g) (subst (Begins 0 nodes (n.False ∷ [])) (sym l) (first nodes))

-- a literal of the graph stays one, with its value
longer : (old new : List AigNode) (node : AigNode) (lit : ℕ) → Adds old new node lit → length new ≡ length old + 1
longer old new node lit a = ap length a.nodes ∙ length_push old node

still_lit : (old new : List AigNode) (node : AigNode) (lit l : ℕ) → Adds old new node lit → IsLit old l → IsLit new l
still_lit old new node lit l a h = let e = longer old new node lit a in omega (arith, e, h)

new_lit : (old new : List AigNode) (node : AigNode) (lit : ℕ) → Adds old new node lit → IsPlaced new lit
new_lit old new node lit a =
    let e = longer old new node lit a in
    let p = a.place in
    (omega (arith, e, p), omega (arith, p))

still_there : (old new : List AigNode) (node : AigNode) (lit k : ℕ) (g : AigNode) → Adds old new node lit
    → slice_get old k ≡ Some g → slice_get new k ≡ Some g
still_there old new node lit k g a e = ap (λ gs. slice_get gs k) a.nodes ∙ get_front old node k g e

set_here : (lits : List ℕ) (i lit : ℕ) → i < length lits → slice_index (slice_set lits i lit) i ≡ lit
set_here lits i lit l = get_or-set_same lits i lit 0 l

set_there : (lits : List ℕ) (i j lit : ℕ) → (j ≡ i → ⊥) → slice_index (slice_set lits i lit) j ≡ slice_index lits j
set_there lits i j lit d = get_or-set_other lits i j lit 0 d

module _ (i nodes : ℕ) (graph new : List AigNode) (lits : List ℕ) (lit : ℕ) (h : Begins i nodes graph lits)
    (a : Adds graph new (n.Input (inputs_of graph)) lit) (room : i + 1 < nodes) where
  -- what was there before
  kept : (x : ℕ → Bool) (j : ℕ) → j ≤ i
      → lit_at new x (slice_index (slice_set lits (i + 1) lit) j) ≡ lit_at graph x (slice_index lits j)
  kept x j l =
      ap (lit_at new x) (set_there lits (i + 1) j lit (λ e. absurd (omega (arith, e, l))))
      ∙ a.kept x (slice_index lits j) (h.placed j l).0

  place : (j : ℕ) → j ≤ i + 1 → IsPlaced new (slice_index (slice_set lits (i + 1) lit) j)
  place j l = cases_of (cases_eq j (i + 1))
      (λ e. subst (IsPlaced new) (sym (ap (slice_index (slice_set lits (i + 1) lit)) e
      ∙ set_here lits (i + 1) lit (let s = h.size in omega (arith, s, room))))
      (new_lit graph new (n.Input (inputs_of graph)) lit a))
      (λ d. let m : j ≤ i = omega (arith, l, d) in
      subst (IsPlaced new) (sym (set_there lits (i + 1) j lit d)) (
        still_lit graph new (n.Input (inputs_of graph)) lit (slice_index lits j) a (h.placed j m).0,
        (h.placed j m).1,
      ))

  input_there : (k : ℕ) → k < i + 1 → slice_get new (k + 1) ≡ Some (n.Input k)
  input_there k l = cases_of (cases_eq k i)
      (λ e.
      let p : k + 1 ≡ length graph = let s = h.long in omega (arith, s, e) in
      let q : inputs_of graph ≡ k = h.count ∙ sym e in
      ap (slice_get new) p ∙ ap (λ gs. slice_get gs (length graph)) a.nodes
      ∙ get_last graph (n.Input (inputs_of graph)) ∙ ap (λ c. Some (n.Input c)) q)
      (λ d. let m : k < i = omega (arith, l, d) in
      still_there graph new (n.Input (inputs_of graph)) lit (k + 1) (n.Input k) a (h.first k m))

  input_value : (x : ℕ → Bool) (k : ℕ) → k < i + 1
      → lit_at new x (slice_index (slice_set lits (i + 1) lit) (k + 1)) ≡ x k
  input_value x k l = cases_of (cases_eq k i)
      (λ e.
      ap (λ j. lit_at new x (slice_index (slice_set lits (i + 1) lit) (j + 1))) e
      ∙ ap (lit_at new x) (set_here lits (i + 1) lit (let s = h.size in omega (arith, s, room)))
      ∙ a.value x ∙ ap x (h.count ∙ sym e))
      (λ d. let m : k < i = omega (arith, l, d) in kept x (k + 1) (omega (arith, m)) ∙ h.given x k m)

  pub begins_more : Begins (i + 1) nodes new (slice_set lits (i + 1) lit)
  begins_more = record {
    size = length-set lits (i + 1) lit ∙ h.size;
    long =
        let e = longer graph new (n.Input (inputs_of graph)) lit a in
        let s = h.long in
        omega (arith, e, s);
    count =
        ap inputs_of a.nodes ∙ count_push 0 graph (n.Input (inputs_of graph)) ∙ ap (λ c. c + 1) h.count;
    first = input_there;
    placed = place;
    constant = λ x. kept x 0 (omega arith) ∙ h.constant x;
    given = input_value;
  }

-- ---- the gates

pub builds_none : (inputs nodes : ℕ) (wires : List Wire) (order : List ℕ) (graph : List AigNode) (lits : List ℕ)
    → nodes ≡ inputs + 1 + length wires → Begins inputs nodes graph lits → Builds inputs wires order 0 graph lits
builds_none inputs nodes wires order graph lits e h = record {
  size = h.size ∙ e;
  long = let s = h.long in omega (arith, s);
  count = h.count;
  first = h.first;
  placed = λ i d. cases_of d (h.placed i) (λ r. let l = r.2 in absurd (omega (arith, l)));
  constant = h.constant;
  given = h.given;
  used = λ b k w l p q. absurd (omega (arith, l));
  both = λ x b k w l p q. absurd (omega (arith, l));
}

-- the value of a literal that was moved
moved_value : (vs : List Bool) (s l : ℕ) → s % 2 ≡ 0 → literal vs (s + l % 2) ≡ turned (is_negated l) (literal vs s)
moved_value vs s l e =
    let p : (s + l % 2) % 2 ≡ l % 2 = omega (arith, e) in
    let q : (s + l % 2) / 2 ≡ s / 2 = omega (arith, e) in
    ap (λ t. turned (t == 1) (slice_index_or vs ((s + l % 2) / 2) false)) p
    ∙ ap (λ t. turned (is_negated l) (slice_index_or vs t false)) q
    ∙ sym (ap (λ t. turned (is_negated l) (turned (t == 1) (slice_index_or vs (s / 2) false))) e)

-- what is done stays so
done_later : (inputs : ℕ) (order : List ℕ) (a b i : ℕ) → a ≤ b → IsDone inputs order a i → IsDone inputs order b i
done_later inputs order a b i l d = cases_of d (λ x. inl x)
    (λ r. let m : r.0 < b = let s = r.2 in omega (arith, l, s) in inr (r.0, r.1, m, r.3, r.4))

module _ (inputs : ℕ) (wires : List Wire) (order : List ℕ) (o : IsOrder (successors inputs wires) order) where
  count : length (successors inputs wires) ≡ length wires
  count = length-map wires (row_of inputs)

  -- a gate in the order
  pub gate_there : (a k : ℕ) → slice_get order a ≡ Some k → k < length wires
  gate_there a k e = let l = o.only a k e in omega (arith, l, count)

  -- a node that a gate uses stands before it
  used_before : (a k j : ℕ) → slice_get order a ≡ Some k → Leads (successors inputs wires) k j → j < length wires
      → (b : ℕ) × (b < a) × (slice_get order b ≡ Some j)
  used_before a k j e lead less =
      let p = order_place (successors inputs wires) order o j (omega (arith, less, count)) in
      (p.0, o.behind a p.0 k j e p.1 lead, p.1)

  pub left_done : (a k : ℕ) (w : Wire) → slice_get order a ≡ Some k → slice_get wires k ≡ Some w
      → w.left / 2 < inputs + 1 + length wires → IsDone inputs order a (w.left / 2)
  left_done a k w e f less = cases_of (cases_lt inputs (w.left / 2))
      (λ l.
      let d : w.left / 2 ≡ inputs + 1 + (w.left / 2 - inputs - 1) = omega (arith, l) in
      let t = target_some inputs w.left (w.left / 2 - inputs - 1) d in
      let p = in_left (gate_target inputs w.left) (gate_target inputs w.right) 0 (w.left / 2 - inputs - 1)
      (ap (λ xs. slice_get xs 0) t) in
      let r = used_before a k (w.left / 2 - inputs - 1) e
      (p.0, ap (λ xs. slice_get xs p.0) (targets_at inputs wires k w f) ∙ p.1) (omega (arith, l, less)) in
      inr (r.0, w.left / 2 - inputs - 1, r.1, r.2, d))
      (λ g. inl g)

  pub right_done : (a k : ℕ) (w : Wire) → slice_get order a ≡ Some k → slice_get wires k ≡ Some w
      → w.right / 2 < inputs + 1 + length wires → IsDone inputs order a (w.right / 2)
  right_done a k w e f less = cases_of (cases_lt inputs (w.right / 2))
      (λ l.
      let d : w.right / 2 ≡ inputs + 1 + (w.right / 2 - inputs - 1) = omega (arith, l) in
      let t = target_some inputs w.right (w.right / 2 - inputs - 1) d in
      let p = in_right (gate_target inputs w.left) (gate_target inputs w.right) 0 (w.right / 2 - inputs - 1)
      (ap (λ xs. slice_get xs 0) t) in
      let r = used_before a k (w.right / 2 - inputs - 1) e
      (p.0, ap (λ xs. slice_get xs p.0) (targets_at inputs wires k w f) ∙ p.1) (omega (arith, l, less)) in
      inr (r.0, w.right / 2 - inputs - 1, r.1, r.2, d))
      (λ g. inl g)

  -- at the end all nodes are done
  pub all_done : (i : ℕ) → i < inputs + 1 + length wires → IsDone inputs order (length order) i
  all_done i less = cases_of (cases_lt inputs i)
      (λ l.
      let d : i ≡ inputs + 1 + (i - inputs - 1) = omega (arith, l) in
      let p = order_place (successors inputs wires) order o (i - inputs - 1) (omega (arith, less, l, count)) in
      let m = slice_get_within order p.0 (i - inputs - 1) p.1 in
      inr (p.0, i - inputs - 1, m, p.1, d))
      (λ g. inl g)

  -- one gate more
  module _ (a k : ℕ) (w : Wire) (graph new : List AigNode) (lits : List ℕ) (lit : ℕ) (e : slice_get order a ≡ Some k)
      (f : slice_get wires k ≡ Some w) (h : Builds inputs wires order a graph lits)
      (left : IsDone inputs order a (w.left / 2)) (right : IsDone inputs order a (w.right / 2))
      (ad : Adds graph new (n.And (moved lits w.left) (moved lits w.right)) lit) where
    room : inputs + 1 + k < length lits
    room = let l = gate_there a k e in let s = h.size in omega (arith, l, s)

    -- the new node isn't done
    other : (i : ℕ) → IsDone inputs order a i → i ≡ inputs + 1 + k → ⊥
    other i d s = cases_of d (λ l. absurd (omega (arith, l, s)))
        (λ r.
        let q : r.1 ≡ k = let t = r.4 in omega (arith, t, s) in
        let u = o.once r.0 a k (r.3 ∙ ap (λ j. Some j) q) e in
        let v = r.2 in
        absurd (omega (arith, u, v)))

    same : (i : ℕ) → IsDone inputs order a i
        → slice_index (slice_set lits (inputs + 1 + k) lit) i ≡ slice_index lits i
    same i d = set_there lits (inputs + 1 + k) i lit (other i d)

    same_moved : (l : ℕ) → IsDone inputs order a (l / 2)
        → moved (slice_set lits (inputs + 1 + k) lit) l ≡ moved lits l
    same_moved l d = ap (λ s. s + l % 2) (same (l / 2) d)

    here : slice_index (slice_set lits (inputs + 1 + k) lit) (inputs + 1 + k) ≡ lit
    here = set_here lits (inputs + 1 + k) lit room

    lit_moved : (l : ℕ) → IsDone inputs order a (l / 2) → IsLit graph (moved lits l)
    lit_moved l d = let p = h.placed (l / 2) d in let x = p.0 in let y = p.1 in omega (arith, x, y)

    stays : (x : ℕ → Bool) (i : ℕ) → IsDone inputs order a i
        → lit_at new x (slice_index (slice_set lits (inputs + 1 + k) lit) i) ≡ lit_at graph x (slice_index lits i)
    stays x i d = ap (lit_at new x) (same i d) ∙ ad.kept x (slice_index lits i) (h.placed i d).0

    kept_moved : (x : ℕ → Bool) (l : ℕ) → IsDone inputs order a (l / 2)
        → lit_at new x (moved (slice_set lits (inputs + 1 + k) lit) l) ≡ lit_at graph x (moved lits l)
    kept_moved x l d = ap (lit_at new x) (same_moved l d) ∙ ad.kept x (moved lits l) (lit_moved l d)

    -- the gate itself, or one before
    last : (b j : ℕ) → b < a + 1 → slice_get order b ≡ Some j → (b < a) ⊎ ((b ≡ a) × (j ≡ k))
    last b j l p = cases_of (cases_eq b a)
        (λ s. inr (s, same_Some j k (sym p ∙ ap (slice_get order) s ∙ e)))
        (λ d. inl (omega (arith, l, d)))

    placed_more : (i : ℕ) → IsDone inputs order (a + 1) i → IsPlaced new (slice_index (slice_set lits (inputs + 1 + k) lit) i)
    placed_more i d = cases_of (before i d)
        (λ c. subst (IsPlaced new) (sym (same i c)) (
          still_lit graph new (n.And (moved lits w.left) (moved lits w.right)) lit (slice_index lits i) ad
              (h.placed i c).0,
          (h.placed i c).1,
        ))
        (λ s. subst (IsPlaced new) (sym (ap (slice_index (slice_set lits (inputs + 1 + k) lit)) s ∙ here))
        (new_lit graph new (n.And (moved lits w.left) (moved lits w.right)) lit ad)) where
          before : (i : ℕ) → IsDone inputs order (a + 1) i → IsDone inputs order a i ⊎ (i ≡ inputs + 1 + k)
          before i d = cases_of d (λ l. inl (inl l))
              (λ r. cases_of (last r.0 r.1 r.2 r.3) (λ l. inl (inr (r.0, r.1, l, r.3, r.4)))
              (λ s. inr (r.4 ∙ ap (λ j. inputs + 1 + j) s.1)))

    used_more : (b j : ℕ) (v : Wire) → b < a + 1 → slice_get order b ≡ Some j → slice_get wires j ≡ Some v
        → IsDone inputs order b (v.left / 2) × IsDone inputs order b (v.right / 2)
    used_more b j v l p q = cases_of (last b j l p) (λ m. h.used b j v m p q)
        (λ s.
        let t : w ≡ v = same_Some w v (sym f ∙ ap (slice_get wires) (sym s.1) ∙ q) in
        subst (λ c. IsDone inputs order c (v.left / 2) × IsDone inputs order c (v.right / 2)) (sym s.0)
        (subst (λ (u : Wire). IsDone inputs order a (u.left / 2) × IsDone inputs order a (u.right / 2)) t
        (left, right)))

    value_here : (x : ℕ → Bool) → lit_at new x (slice_index (slice_set lits (inputs + 1 + k) lit) (inputs + 1 + k))
        ≡ (lit_at new x (moved (slice_set lits (inputs + 1 + k) lit) w.left)
        && lit_at new x (moved (slice_set lits (inputs + 1 + k) lit) w.right))
    value_here x =
        ap (lit_at new x) here ∙ ad.value x
        ∙ ap (λ c. c && lit_at graph x (moved lits w.right)) (sym (kept_moved x w.left left))
        ∙ ap (λ c. lit_at new x (moved (slice_set lits (inputs + 1 + k) lit) w.left) && c)
        (sym (kept_moved x w.right right))

    both_more : (x : ℕ → Bool) (b j : ℕ) (v : Wire) → b < a + 1 → slice_get order b ≡ Some j
        → slice_get wires j ≡ Some v
        → lit_at new x (slice_index (slice_set lits (inputs + 1 + k) lit) (inputs + 1 + j))
        ≡ (lit_at new x (moved (slice_set lits (inputs + 1 + k) lit) v.left)
        && lit_at new x (moved (slice_set lits (inputs + 1 + k) lit) v.right))
    both_more x b j v l p q = cases_of (last b j l p)
        (λ m.
        let u = h.used b j v m p q in
        let le : b ≤ a = omega (arith, m) in
        stays x (inputs + 1 + j) (inr (b, j, m, p, refl)) ∙ h.both x b j v m p q
        ∙ ap (λ c. c && lit_at graph x (moved lits v.right))
        (sym (kept_moved x v.left (done_later inputs order b a (v.left / 2) le u.0)))
        ∙ ap (λ c. lit_at new x (moved (slice_set lits (inputs + 1 + k) lit) v.left) && c)
        (sym (kept_moved x v.right (done_later inputs order b a (v.right / 2) le u.1))))
        (λ s.
        let t : w ≡ v = same_Some w v (sym f ∙ ap (slice_get wires) (sym s.1) ∙ q) in
        ap (λ i. lit_at new x (slice_index (slice_set lits (inputs + 1 + k) lit) (inputs + 1 + i))) s.1
        ∙ value_here x
        ∙ ap (λ (u : Wire). lit_at new x (moved (slice_set lits (inputs + 1 + k) lit) u.left)
        && lit_at new x (moved (slice_set lits (inputs + 1 + k) lit) u.right)) t)

    pub builds_more : Builds inputs wires order (a + 1) new (slice_set lits (inputs + 1 + k) lit)
    builds_more = record {
      size = length-set lits (inputs + 1 + k) lit ∙ h.size;
      long =
          let l = longer graph new (n.And (moved lits w.left) (moved lits w.right)) lit ad in
          let s = h.long in
          omega (arith, l, s);
      count =
          ap inputs_of ad.nodes ∙ count_push 0 graph (n.And (moved lits w.left) (moved lits w.right)) ∙ h.count;
      first = λ i l.
          still_there graph new (n.And (moved lits w.left) (moved lits w.right)) lit (i + 1) (n.Input i) ad (h.first i l);
      placed = placed_more;
      constant = λ x. stays x 0 (inl (omega arith)) ∙ h.constant x;
      given = λ x i l. stays x (i + 1) (inl (omega (arith, l))) ∙ h.given x i l;
      used = used_more;
      both = both_more;
    }

    -- the operands are literals of the graph
    pub left_lit : IsLit graph (moved lits w.left)
    left_lit = lit_moved w.left left

    pub right_lit : IsLit graph (moved lits w.right)
    right_lit = lit_moved w.right right

  -- ---- all gates

  module _ (root : ℕ) (graph : List AigNode) (lits : List ℕ) (there : root / 2 < inputs + 1 + length wires)
      (h : Builds inputs wires order (length order) graph lits) where
    even_moved : (x : ℕ → Bool) (l : ℕ) → IsDone inputs order (length order) (l / 2)
        → lit_at graph x (moved lits l) ≡ turned (is_negated l) (lit_at graph x (slice_index lits (l / 2)))
    even_moved x l d = moved_value (values_of graph x) (slice_index lits (l / 2)) l (h.placed (l / 2) d).1

    -- the values of the graph
    some_values : (x : ℕ → Bool) → (u : ℕ → Bool) × MeetsWires inputs wires x u
    some_values x = (
      λ i. lit_at graph x (slice_index lits i),
      record {
        constant = h.constant x;
        given = h.given x;
        gates = λ k w f.
            let less = slice_get_within wires k w f in
            let p = order_place (successors inputs wires) order o k (omega (arith, less, count)) in
            let m = slice_get_within order p.0 k p.1 in
            let u = h.used p.0 k w m p.1 f in
            let le : p.0 ≤ length order = omega (arith, m) in
            h.both x p.0 k w m p.1 f
            ∙ ap (λ c. c && lit_at graph x (moved lits w.right))
            (even_moved x w.left (done_later inputs order p.0 (length order) (w.left / 2) le u.0))
            ∙ ap (λ c. turned (is_negated w.left) (lit_at graph x (slice_index lits (w.left / 2))) && c)
            (even_moved x w.right (done_later inputs order p.0 (length order) (w.right / 2) le u.1));
      },
    )

    -- all values that meet the wires are those of the graph
    module _ (x u : ℕ → Bool) (m : MeetsWires inputs wires x u) where
      agree_input : (i : ℕ) → i ≤ inputs → u i ≡ lit_at graph x (slice_index lits i)
      agree_input zero l = m.constant ∙ sym (h.constant x)
      agree_input (suc k) l =
          let less : k < inputs = omega (arith, l) in
          let e : k + 1 ≡ suc k = omega arith in
          ap u (sym e) ∙ m.given k less ∙ sym (h.given x k less)
          ∙ ap (λ i. lit_at graph x (slice_index lits i)) e

      agree_moved : (l : ℕ) → IsDone inputs order (length order) (l / 2)
          → u (l / 2) ≡ lit_at graph x (slice_index lits (l / 2)) → wire_value u l ≡ lit_at graph x (moved lits l)
      agree_moved l d e = ap (turned (is_negated l)) e ∙ sym (even_moved x l d)

      agree : (a : ℕ) → a ≤ length order → (i : ℕ) → IsDone inputs order a i
          → u i ≡ lit_at graph x (slice_index lits i)
      agree zero l i d = cases_of d (agree_input i) (λ r. let s = r.2 in absurd (omega (arith, s)))
      agree (suc a) l i d = cases_of d (agree_input i)
          (λ r.
          let small : r.0 < length order = let s = r.2 in omega (arith, s, l) in
          let before : r.0 ≤ a = let s = r.2 in omega (arith, s) in
          let lower : a ≤ length order = omega (arith, l) in
          let w = get_some wires r.1 (gate_there r.0 r.1 r.3) in
          let v = h.used r.0 r.1 w.0 small r.3 w.1 in
          let p = done_later inputs order r.0 a (w.0.left / 2) before v.0 in
          let q = done_later inputs order r.0 a (w.0.right / 2) before v.1 in
          ap u r.4 ∙ m.gates r.1 w.0 w.1
          ∙ ap (λ c. c && wire_value u w.0.right)
          (agree_moved w.0.left (done_later inputs order a (length order) (w.0.left / 2) lower p)
          (agree a lower (w.0.left / 2) p))
          ∙ ap (λ c. lit_at graph x (moved lits w.0.left) && c)
          (agree_moved w.0.right (done_later inputs order a (length order) (w.0.right / 2) lower q)
          (agree a lower (w.0.right / 2) q))
          ∙ sym (h.both x r.0 r.1 w.0 small r.3 w.1)
          ∙ ap (λ i. lit_at graph x (slice_index lits i)) (sym r.4))

      root_agrees : wire_value u root ≡ lit_at graph x (moved lits root)
      root_agrees =
          let d = all_done (root / 2) there in
          agree_moved root d (agree (length order) (omega arith) (root / 2) d)

    pub built : IsBuilt inputs root wires graph (moved lits root)
    built = record {
      count = h.count;
      first = h.first;
      nodes =
          let l = order_length (successors inputs wires) order o in
          let s = h.long in
          omega (arith, l, s, count);
      literal =
          let p = h.placed (root / 2) (all_done (root / 2) there) in
          let x = p.0 in
          let y = p.1 in
          omega (arith, x, y);
      some = some_values;
      same = root_agrees;
    }
