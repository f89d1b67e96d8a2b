-- Gates that use one another, as nodes that lead to one another.
use Rattle.std.proofs.Common.{◌≡◌, ℕ, zero, suc, ◌+◌, ◌-◌, ◌*◌, ◌/◌, ◌%◌, ◌<◌, ◌≤◌, Bool, true, false, cond, List, []}
use Rattle.std.proofs.Common.{◌∷◌, ◌++◌, length, map, Option, Some, None, refl, ap, sym, ◌∙◌, subst, ◌⊎◌, inl, inr, arith}
use Rattle.std.specs.Prelude.{nat_eq, nat_lt, position, slice_get, option_map}
use Rattle.std.proofs.lemmas.Bool.{cases_Bool, cases_lt}
use Rattle.std.proofs.lemmas.Bool.Decides.{nat_tests}
use Rattle.std.proofs.lemmas.List.{length-map, length-append}
use Rattle.std.proofs.lemmas.Option.{none-some, same_Some, slice_get_within, slice_get-map, slice_get_past}
use Rattle.fv_graph.specs.Graph.{or_empty, targets, Leads, IsWithin, IsChain, last_node, IsCircle}
use Rattle.fv_graph.proofs.Lists.{get_some}
use Rattle.aiger_text.specs.declared.gate.Gate.{Gate}
use Rattle.aiger_text.specs.declared.wires.Wire.{Wire}
use Rattle.aiger_text.specs.Said.{Said, variable, variables}
use Rattle.aiger_text.specs.Profile.{Needs, LeadsTo, DependsOnItself, IsLoop}
use Rattle.aiger_text.specs.Wires.{wire_end, IsWired, gate_target, row_of, successors}
use Rattle.aiger_text.specs.Circles.{IsOnCircle, IsFirstOnCircle}
use Rattle.aiger_text.proofs.PlaceLaws.{place_has}
use Rattle.aiger_text.proofs.SaidLaws.{AreVariables}
use Rattle.aiger_text.proofs.EndLaws.{Ends, constant, placed, ends, AreEnds, wire_at, gate_at, same_count}
use Rattle.aiger_text.proofs.ValueLaws.{gate_place}

-- ---- the gates that a literal is one of

pub target_some : (inputs lit j : ℕ) → lit / 2 ≡ inputs + 1 + j → gate_target inputs lit ≡ j ∷ []
target_some inputs lit j e =
    let t : nat_lt inputs (lit / 2) ≡ true = grind (arith, nat_tests) in
    let n : lit / 2 - inputs - 1 ≡ j = omega (arith, e) in
    ap (λ b. cond b ((lit / 2 - inputs - 1) ∷ []) []) t ∙ ap (λ k. k ∷ []) n

one_of : (x j k : ℕ) → slice_get (x ∷ []) k ≡ Some j → x ≡ j
one_of x j zero e = same_Some x j e
one_of x j (suc k) e = absurd (none-some j e)

target_is : (inputs lit j k : ℕ) → slice_get (gate_target inputs lit) k ≡ Some j → lit / 2 ≡ inputs + 1 + j
target_is inputs lit j k e = by (cases_lt inputs (lit / 2)) where
  by : (inputs < lit / 2) ⊎ (lit / 2 ≤ inputs) → lit / 2 ≡ inputs + 1 + j
  by (inl l) =
      let t : nat_lt inputs (lit / 2) ≡ true = grind (arith, nat_tests) in
      let s : gate_target inputs lit ≡ (lit / 2 - inputs - 1) ∷ [] =
      ap (λ b. cond b ((lit / 2 - inputs - 1) ∷ []) []) t in
      let n = one_of (lit / 2 - inputs - 1) j k (ap (λ xs. slice_get xs k) (sym s) ∙ e) in
      omega (arith, n, l)
  by (inr g) =
      let t : nat_lt inputs (lit / 2) ≡ false = grind (arith, nat_tests) in
      let s : gate_target inputs lit ≡ [] = ap (λ b. cond b ((lit / 2 - inputs - 1) ∷ []) []) t in
      absurd (none-some j (ap (λ xs. slice_get xs k) (sym s) ∙ e))

pub in_left : (xs ys : List ℕ) (k x : ℕ) → slice_get xs k ≡ Some x → (a : ℕ) × (slice_get (xs ++ ys) a ≡ Some x)
in_left [] ys k x e = absurd (none-some x e)
in_left (y ∷ xs) ys zero x e = (0, e)
in_left (y ∷ xs) ys (suc k) x e = let r = in_left xs ys k x e in (suc r.0, r.1)

pub in_right : (xs ys : List ℕ) (k x : ℕ) → slice_get ys k ≡ Some x → (a : ℕ) × (slice_get (xs ++ ys) a ≡ Some x)
in_right [] ys k x e = (k, e)
in_right (y ∷ xs) ys k x e = let r = in_right xs ys k x e in (suc r.0, r.1)

in_either : (xs ys : List ℕ) (k x : ℕ) → slice_get (xs ++ ys) k ≡ Some x
    → ((a : ℕ) × (slice_get xs a ≡ Some x)) ⊎ ((a : ℕ) × (slice_get ys a ≡ Some x))
in_either [] ys k x e = inr (k, e)
in_either (y ∷ xs) ys zero x e = inl (0, e)
in_either (y ∷ xs) ys (suc k) x e = by (in_either xs ys k x e) where
  by : ((a : ℕ) × (slice_get xs a ≡ Some x)) ⊎ ((a : ℕ) × (slice_get ys a ≡ Some x))
      → ((a : ℕ) × (slice_get (y ∷ xs) a ≡ Some x)) ⊎ ((a : ℕ) × (slice_get ys a ≡ Some x))
  by (inl p) = inl (suc p.0, p.1)
  by (inr p) = inr p

-- the row of a node
pub targets_at : (inputs : ℕ) (wires : List Wire) (k : ℕ) (w : Wire) → slice_get wires k ≡ Some w
    → targets (successors inputs wires) k ≡ row_of inputs w
targets_at inputs wires k w e =
    ap or_empty (slice_get-map (row_of inputs) wires k ∙ ap (option_map (row_of inputs)) e)

-- a node that leads somewhere is there
pub leads_there : (graph : List (List ℕ)) (i j : ℕ) → Leads graph i j → i < length graph
leads_there graph i j lead = by (cases_lt i (length graph)) where
  by : (i < length graph) ⊎ (length graph ≤ i) → i < length graph
  by (inl l) = l
  by (inr g) =
      absurd (none-some j (ap (λ o. slice_get (or_empty o) lead.0) (sym (slice_get_past graph i g)) ∙ lead.1))

module _ (said : Said) (inputs root : ℕ) (wires : List Wire) (h : IsWired said inputs root wires)
    (a : AreVariables (variables said)) where
  -- an operand that a gate defines
  end_of_gate : (literal e j : ℕ) (g : Gate) → wire_end (variables said) literal ≡ Some e
      → slice_get said.gates j ≡ Some g → variable literal ≡ variable g.literal → e / 2 ≡ inputs + 1 + j
  end_of_gate literal e j g p q s = by (ends (variables said) literal e p) where
    there : slice_get (variables said) (length said.inputs + j) ≡ Some (variable literal)
    there = gate_place said j g q ∙ ap (λ v. Some v) (sym s)

    by : Ends (variables said) literal e → e / 2 ≡ inputs + 1 + j
    by (constant z r) = absurd (a.some (length said.inputs + j) (there ∙ ap (λ v. Some v) z))
    by (placed i n r t) =
        let k = a.once i (length said.inputs + j) (variable literal) (place_has (variable literal) i (variables said) r)
        there in
        omega (arith, t, k, h.count)

  gate_of_end : (literal e j : ℕ) → wire_end (variables said) literal ≡ Some e → e / 2 ≡ inputs + 1 + j
      → j < length said.gates → (g : Gate) × (slice_get said.gates j ≡ Some g) × (variable literal ≡ variable g.literal)
  gate_of_end literal e j p d less = by (ends (variables said) literal e p) where
    by : Ends (variables said) literal e
        → (g : Gate) × (slice_get said.gates j ≡ Some g) × (variable literal ≡ variable g.literal)
    by (constant z r) = absurd (omega (arith, r, d))
    by (placed i n r t) =
        let g = get_some said.gates j less in
        let k : i ≡ length said.inputs + j = omega (arith, t, d, h.count) in
        let there = ap (slice_get (variables said)) (sym k) ∙ place_has (variable literal) i (variables said) r in
        (g.0, g.1, same_Some (variable literal) (variable g.0.literal) (sym there ∙ gate_place said j g.0 g.1))

  -- gates that are nodes are gates of the text
  end_within : (literal e j : ℕ) → wire_end (variables said) literal ≡ Some e → e / 2 ≡ inputs + 1 + j
      → j < length said.gates
  end_within literal e j p d = by (ends (variables said) literal e p) where
    long : length (variables said) ≡ length said.inputs + length said.gates
    long =
        length-append (map variable said.inputs) (map (λ (g : Gate). variable g.literal) said.gates)
        ∙ ap (λ n. n + length (map (λ (g : Gate). variable g.literal) said.gates)) (length-map said.inputs variable)
        ∙ ap (λ n. length said.inputs + n) (length-map said.gates (λ (g : Gate). variable g.literal))

    by : Ends (variables said) literal e → j < length said.gates
    by (constant z r) = absurd (omega (arith, r, d))
    by (placed i n r t) =
        let less = slice_get_within (variables said) i (variable literal)
        (place_has (variable literal) i (variables said) r) in
        omega (arith, t, d, less, long, h.count)

  pub needs_leads : (k j : ℕ) → Needs said.gates k j → Leads (successors inputs wires) k j
  needs_leads k j n = by n.uses where
    w : (w : Wire) × (slice_get wires k ≡ Some w) × AreEnds (variables said) n.user w
    w = wire_at (variables said) said.gates wires h.wires_are k n.user n.user_is

    by : (variable n.user.left ≡ variable n.used.literal) ⊎ (variable n.user.right ≡ variable n.used.literal)
        → Leads (successors inputs wires) k j
    by (inl e) =
        let t = target_some inputs w.0.left j (end_of_gate n.user.left w.0.left j n.used w.2.left n.used_is e) in
        let p = in_left (gate_target inputs w.0.left) (gate_target inputs w.0.right) 0 j
        (ap (λ xs. slice_get xs 0) t) in
        (p.0, ap (λ xs. slice_get xs p.0) (targets_at inputs wires k w.0 w.1) ∙ p.1)
    by (inr e) =
        let t = target_some inputs w.0.right j (end_of_gate n.user.right w.0.right j n.used w.2.right n.used_is e) in
        let p = in_right (gate_target inputs w.0.left) (gate_target inputs w.0.right) 0 j
        (ap (λ xs. slice_get xs 0) t) in
        (p.0, ap (λ xs. slice_get xs p.0) (targets_at inputs wires k w.0 w.1) ∙ p.1)

  pub leads_needs : (k j : ℕ) → Leads (successors inputs wires) k j → Needs said.gates k j
  leads_needs k j lead =
      by (in_either (gate_target inputs w.0.left) (gate_target inputs w.0.right) lead.0 j
      (ap (λ xs. slice_get xs lead.0) (sym (targets_at inputs wires k w.0 w.1)) ∙ lead.1)) where
        there : k < length wires
        there =
            let l = leads_there (successors inputs wires) k j lead in
            omega (arith, l, length-map wires (row_of inputs))

        w : (w : Wire) × (slice_get wires k ≡ Some w)
        w = get_some wires k there

        g : (g : Gate) × (slice_get said.gates k ≡ Some g) × AreEnds (variables said) g w.0
        g = gate_at (variables said) said.gates wires h.wires_are k w.0 w.1

        by : ((b : ℕ) × (slice_get (gate_target inputs w.0.left) b ≡ Some j))
            ⊎ ((b : ℕ) × (slice_get (gate_target inputs w.0.right) b ≡ Some j)) → Needs said.gates k j
        by (inl p) =
            let d = target_is inputs w.0.left j p.0 p.1 in
            let u = gate_of_end g.0.left w.0.left j g.2.left d (end_within g.0.left w.0.left j g.2.left d) in
            record { user = g.0; used = u.0; user_is = g.1; used_is = u.1; uses = inl u.2 }
        by (inr p) =
            let d = target_is inputs w.0.right j p.0 p.1 in
            let u = gate_of_end g.0.right w.0.right j g.2.right d (end_within g.0.right w.0.right j g.2.right d) in
            record { user = g.0; used = u.0; user_is = g.1; used_is = u.1; uses = inr u.2 }

  pub is_within : IsWithin (successors inputs wires)
  is_within = λ i j lead.
      let n = leads_needs i j lead in
      let l = slice_get_within said.gates j n.used n.used_is in
      omega (arith, l, same_count (variables said) said.gates wires h.wires_are, length-map wires (row_of inputs))

  chain_leads : (goal k : ℕ) (js : List ℕ) → LeadsTo said.gates goal k js
      → IsChain (successors inputs wires) k js × Leads (successors inputs wires) (last_node k js) goal
  chain_leads goal k [] l = (tt, needs_leads k goal l)
  chain_leads goal k (j ∷ js) l =
      let r = chain_leads goal j js l.1 in ((needs_leads k j l.0, r.0), r.1)

  chain_needs : (goal k : ℕ) (js : List ℕ) → IsChain (successors inputs wires) k js
      → Leads (successors inputs wires) (last_node k js) goal → LeadsTo said.gates goal k js
  chain_needs goal k [] c l = leads_needs k goal l
  chain_needs goal k (j ∷ js) c l = (leads_needs k j c.0, chain_needs goal j js c.1 l)

  pub depends_circle : (k : ℕ) → DependsOnItself said.gates k → IsOnCircle (successors inputs wires) k
  depends_circle k d = (d.0, chain_leads k k d.0 d.1)

  pub circle_depends : (k : ℕ) → IsOnCircle (successors inputs wires) k → DependsOnItself said.gates k
  circle_depends k c = (c.0, chain_needs k k c.0 c.1.0 c.1.1)

  -- the first gate on a circle is the first that depends on itself
  pub first_loop : (k : ℕ) (w : Wire) → IsFirstOnCircle (successors inputs wires) (Some k) → slice_get wires k ≡ Some w
      → IsLoop said.gates w.line
  first_loop k w f e =
      let g = gate_at (variables said) said.gates wires h.wires_are k w e in
      record {
        place = k;
        gate = g.0;
        gate_is = g.1;
        line_is = g.2.line;
        depends = circle_depends k f.1;
        first = λ j less d. f.2 j less (depends_circle j d);
      }
